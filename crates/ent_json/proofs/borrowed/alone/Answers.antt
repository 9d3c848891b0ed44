use Rattle.std.proofs.Common.{◌≡◌, ℕ, ◌+◌, ◌<◌, List, ◌∷◌, length, drop, get_or, true, false, Option, Bor, Global, bytes_eq, sym, ap, ◌∙◌, arith}
use Rattle.std.proofs.lemmas.List.{at_drop_more}
use Rattle.json.specs.Value.{members_view, value_view}
use Rattle.json.specs.declared.value.Value.{Value}
use Rattle.serde_json.specs.Data.{Data, Members, no_members, member, put}
use Rattle.ent_json.specs.Content.{content_of, members_content}
use Rattle.ent_json.specs.Objects.{alone}
use Rattle.ent_json.proofs.MemberLemmas.{alone-other, put_again}
use Rattle.ent_json.proofs.borrowed.alone.Goals as goal

abbrev Member : Type 0
Member = Bor (List ℕ) × Value Global

abbrev with : Members → List Member → Option (List ℕ × Data)
with found ms = alone (members_content (members_view ms) found)

turn : (found : Members) (ms : List Member) (i : ℕ) (m : Member) → i < length ms → m ≡ get_or ms i m → with found (drop i ms) ≡ with (put m.0.now (content_of (value_view m.1)) found) (drop (i + 1) ms)
turn found ms i m h is = at_drop_more (with found) ms i m h ∙ ap (λ x. with found (x ∷ drop (i + 1) ms)) (sym is)

pub returns-then-not-is_same : goal.returns-then-not-is_same
returns-then-not-is_same c =
    let key = c.in_ok-first.first.now.0.now in
    let last = content_of (value_view c.loop-member.last.now) in
    let rest = c.in_ok-first.rest.now in
    let m = c.member-item.result in
    let i = c.loop-member.member-index in
    let other : bytes_eq m.0.now key ≡ false = grind arith in
    let here = turn (member key last no_members) rest i m c.loop-member-test.true c.member-item.is in
    sym (here ∙ alone-other (members_view (drop (i + 1) rest)) m.0.now key (content_of (value_view m.1)) last other) ∙ c.loop-member.invariant

pub loop-member-preserved : goal.loop-member-preserved
loop-member-preserved c =
    let key = c.in_ok-first.first.now.0.now in
    let last = content_of (value_view c.loop-member.last.now) in
    let rest = c.in_ok-first.rest.now in
    let m = c.member-item.result in
    let i = c.loop-member.member-index in
    let same : bytes_eq m.0.now key ≡ true = grind arith in
    let here = turn (member key last no_members) rest i m c.loop-member-test.true c.member-item.is in
    sym (here ∙ ap (λ found. with found (drop (i + 1) rest)) (put_again m.0.now key (content_of (value_view m.1)) last same)) ∙ c.loop-member.invariant
