use Rattle.std.proofs.Common.{◌≡◌, ℕ, ◌+◌, ◌<◌, List, ◌∷◌, length, map, drop, get_or, Bool, false, ◌&&◌, Bor, Global, sym, ap, ◌∙◌, arith}
use Rattle.std.proofs.lemmas.List.{at_drop_more, at_drop_all}
use Rattle.json.specs.Value.{members_view}
use Rattle.json.specs.declared.value.Value.{Value}
use Rattle.ent_json.specs.Objects.{among}
use Rattle.ent_json.proofs.MemberLemmas.{keys_among, only-members_content}
use Rattle.ent_json.proofs.borrowed.only.Goals as goal

abbrev Member : Type 0
Member = Bor (List ℕ) × Value Global

abbrev left : List (List ℕ) → List Member → Bool
left ks ms = keys_among ks (members_view ms)

keys-drop : (ks : List (List ℕ)) (ms : List Member) (i : ℕ) (m : Member) (b : Bool) → i < length ms → m ≡ get_or ms i m → b ≡ among m.0.now ks → left ks (drop i ms) ≡ (b && left ks (drop (i + 1) ms))
keys-drop ks ms i m b h is e = at_drop_more (left ks) ms i m h ∙ ap (λ x. left ks (x ∷ drop (i + 1) ms)) (sym is) ∙ ap (λ x. x && left ks (drop (i + 1) ms)) (sym e)

pub returns-then-not-is_among : goal.returns-then-not-is_among
returns-then-not-is_among c =
    let ks = map (λ k. k.now) c.args.keys.now in
    let ms = c.args.members.now in
    let here = keys-drop ks ms c.loop-member.member-index c.member-item.result c.is_among.result c.loop-member-test.true c.member-item.is c.is_among.ensures in
    let off : c.is_among.result ≡ false = grind arith in
    let none : left ks (drop c.loop-member.member-index ms) ≡ false = here ∙ ap (λ x. x && left ks (drop (c.loop-member.member-index + 1) ms)) off in
    sym none ∙ c.loop-member.invariant ∙ sym (only-members_content ks (members_view ms))

pub returns : goal.returns
returns c =
    let ks = map (λ k. k.now) c.args.keys.now in
    let ms = c.args.members.now in
    sym (at_drop_all (left ks) ms c.loop-member.member-index (omega arith)) ∙ c.loop-member.invariant ∙ sym (only-members_content ks (members_view ms))
