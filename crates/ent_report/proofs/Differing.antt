-- The notices are the difference of a table and the present one.
use Rattle.std.proofs.Common.{◌≡◌, List, [], ◌∷◌, map, Bool, true, false, Option, Some, None, refl, sym, ap, subst, ◌∙◌}
use Rattle.std.specs.Prelude.{if◌then◌else◌}
use Rattle.std.specs.Cmp.{IsEquivalence}
use Rattle.std.specs.Cmp.Lexicographic.{nat_list_eq_equiv}
use Rattle.std.specs.FinMap.{get}
use Rattle.std.specs.List.{Contains}
use Rattle.std.specs.List.Sorted.{IsStrictlySortedBy}
use Rattle.std.proofs.lemmas.Cmp.{and_equiv, on_equiv}
use Rattle.std.proofs.lemmas.Map.Views.{Contains-from_any, list_any-from_Contains}
use Rattle.ent_cells.specs.Order.{request_order}
use Rattle.ent_request.specs.declared.answer.Answer.{Answer}
use Rattle.ent_table.specs.AnswerMap.{AnswerMap}
use Rattle.ent_table.specs.Difference.{same_optional}
use Rattle.ent_table.specs.Names.{Names, Triple, is_listed, triples}
use Rattle.ent_table.specs.State.{State, answer_at, answer_to}
use Rattle.ent_table.specs.Tables.{changed_request, changes_from}
use Rattle.ent_table.specs.declared.since.Change.{Change}
use Rattle.ent_table.proofs.Listed.{any_listed, same_request, same_triple}
use Rattle.ent_table.proofs.Members.{from_mapped, mapped}
use Rattle.ent_table.proofs.ToldChanges.{change_tells, change_told, changes-ascending}
use Rattle.ent_report.specs.Differing.{AscendInBytes, TellsDifference, request_of}
use Rattle.ent_report.specs.Notices.{decision_in, notice_of, notices}
use Rattle.ent_combine.specs.declared.outcome.Outcome.{Outcome}

-- ---- listed requests

pub same_triple_equiv : IsEquivalence same_triple
same_triple_equiv = and_equiv (on_equiv (λ (x : Triple). x.person) nat_list_eq_equiv)
    (and_equiv (on_equiv (λ (x : Triple). x.action) nat_list_eq_equiv) (on_equiv (λ (x : Triple). x.resource) nat_list_eq_equiv))

pub contained_listed : (n : Names) (x : Triple) → Contains (triples n) x → is_listed n x ≡ true
contained_listed n x h = sym (any_listed x n) ∙ list_any-from_Contains same_triple_equiv x (triples n) h

pub listed_contained : (n : Names) (x : Triple) → is_listed n x ≡ true → Contains (triples n) x
listed_contained n x e = Contains-from_any same_request x (triples n) (any_listed x n ∙ e)

-- ---- answers

pub unlisted_at : (s : State) (x : Triple) → is_listed s.names x ≡ false → answer_at s x ≡ None
unlisted_at s x e = ap (λ (b : Bool). if b then Some (answer_to s x) else None) e

pub listed_at : (s : State) (x : Triple) → is_listed s.names x ≡ true → answer_at s x ≡ Some (answer_to s x)
listed_at s x e = ap (λ (b : Bool). if b then Some (answer_to s x) else None) e

pub same_none : (a b : Option Answer) → a ≡ None → b ≡ None → same_optional a b ≡ true
same_none a b e g = λ i. same_optional (e i) (g i)

-- ---- the notices are the difference

told_requests : (cs : List (Change Answer)) → map request_of (map notice_of cs) ≡ map changed_request cs
told_requests [] = refl
told_requests (c ∷ cs) = ap (λ l. changed_request c ∷ l) (told_requests cs)

module _ (m : AnswerMap) (s : State) where
  pub tells_difference : (n : Change Outcome) → Contains (notices m s) n → TellsDifference m s n
  tells_difference n h =
      let c = from_mapped notice_of (changes_from m s) n h in
      let t = change_tells m s c.0 c.1.0 in
      subst (TellsDifference m s) c.1.1 (record { differ = t.differ; before = ap decision_in t.before; after = ap decision_in t.after })

  pub difference_told : (n : Change Outcome) → TellsDifference m s n → Contains (notices m s) n
  difference_told n t =
      let x : Triple = request_of n in
      let c : Change Answer = record { person = n.person; action = n.action; resource = n.resource; before = get m x; after = answer_at s x } in
      let there : Contains (changes_from m s) c = change_told m s c (record { differ = t.differ; before = refl; after = refl }) in
      let is : notice_of c ≡ n =
      λ i. record { person = n.person; action = n.action; resource = n.resource; before = sym t.before i; after = sym t.after i } in
      subst (Contains (notices m s)) is (mapped notice_of (changes_from m s) c there)

  pub ascend : AscendInBytes m s
  ascend = subst (IsStrictlySortedBy request_order) (sym (told_requests (changes_from m s))) (changes-ascending m s)
