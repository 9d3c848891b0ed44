use Rattle.std.proofs.Common.{◌≡◌, ℕ, ◌+◌, ◌<◌, List, ◌∷◌, length, drop, get_or, Bool, true, ◌&&◌, Bor, Global, sym, ap, ◌∙◌, arith}
use Rattle.std.proofs.lemmas.List.{at_drop_more}
use Rattle.std.specs.Option.{is_some}
use Rattle.json.specs.Value.{members_view, value_view}
use Rattle.json.specs.declared.value.Value.{Value}
use Rattle.json.proofs.Trees.{view-Object}
use Rattle.serde_json.specs.Data.{no_members}
use Rattle.serde_json.specs.Read.{of_json, of_members}
use Rattle.ent_json.proofs.Reading.{is_some-members, is_some-object}
use Rattle.ent_json.proofs.whole.+is_whole.Goals as goal

abbrev Member : Type 0
Member = Bor (List ℕ) × Value Global

abbrev left : List Member → Bool
left ms = is_some (of_members (members_view ms) no_members)

turn : (ms : List Member) (i : ℕ) (m : Member) → i < length ms → m ≡ get_or ms i m → is_some (of_json (value_view m.1)) ≡ true → left (drop i ms) ≡ left (drop (i + 1) ms)
turn ms i m h is e =
    let rest = drop (i + 1) ms in
    at_drop_more left ms i m h ∙ ap (λ x. left (x ∷ rest)) (sym is) ∙ is_some-members m.0.now (value_view m.1) (members_view rest) ∙ ap (λ b. b && left rest) e

pub are_members_whole-loop-member-preserved : goal.are_members_whole-loop-member-preserved
are_members_whole-loop-member-preserved t c =
    let read : is_some (of_json (value_view c.member-item.result.1)) ≡ true = grind arith in
    sym (turn c.args.members.now c.loop-member.member-index c.member-item.result c.loop-member-test.true c.member-item.is read) ∙ c.loop-member.invariant

pub is_whole-returns-in-Object : goal.is_whole-returns-in-Object
is_whole-returns-in-Object t c =
    let ms = c.in-Object.members in
    let seen = ap value_view c.in-Object.is ∙ view-Object ms in
    c.are_members_whole.ensures ∙ ap left c.deref-in-Object.ensures.value ∙ sym (is_some-object (members_view ms.items)) ∙ sym (ap (λ j. is_some (of_json j)) seen)
