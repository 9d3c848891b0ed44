-- What is told as changed is the difference of a table and that of a state.
use Rattle.std.proofs.Common.{◌≡◌, List, [], ◌∷◌, map, Bool, true, false, not, ◌||◌, Option, Some, None, refl, sym, ap, subst, ◌∙◌}
use Rattle.std.specs.FinMap.{get}
use Rattle.std.specs.List.{Contains, list_any}
use Rattle.std.specs.List.Sorted.{IsStrictlySortedBy}
use Rattle.std.specs.Ordering.{eq_by_cmp, is_eq}
use Rattle.std.proofs.lemmas.Bool.{false≢true}
use Rattle.std.proofs.lemmas.Cmp.{eq_by_cmp_equiv}
use Rattle.std.proofs.lemmas.List.Elements.{All-contains}
use Rattle.std.proofs.lemmas.Map.Views.{Contains-from_any, list_any-from_Contains}
use Rattle.ent_cells.specs.Order.{request_order}
use Rattle.ent_eval.specs.declared.who.Who.{Who}
use Rattle.ent_cells.proofs.Orders as requests
use Rattle.ent_cells.proofs.Orders.{requests-total}
use Rattle.ent_request.specs.Same.{same_answer}
use Rattle.ent_request.specs.contracts.answer.AnswerEq.TheImpl.Laws as answers
use Rattle.ent_request.specs.declared.answer.Answer.{Answer}
use Rattle.ent_log.specs.Difference.{HasAnswers, IsDifference}
use Rattle.ent_log.specs.Difference as log
use Rattle.ent_log.specs.Maps.{map_difference}
use Rattle.ent_log.specs.declared.change.LoggedChange.{LoggedChange as Logged}
use Rattle.ent_log.proofs.MapDifference.{map_difference-difference}
use Rattle.ent_table.specs.AnswerMap.{AnswerMap, answers_of}
use Rattle.ent_table.specs.Difference.{same_optional}
use Rattle.ent_table.specs.Names.{Triple}
use Rattle.ent_table.specs.State.{State, answer_at}
use Rattle.ent_table.specs.Tables.{AreTheDifference, IsChange, change_of, changed_request, changes_from}
use Rattle.ent_table.specs.declared.since.Change.{Change}
use Rattle.ent_table.proofs.AnswerMaps.{get-answers_of}
use Rattle.ent_table.proofs.Members.{from_mapped, mapped}

pub not_true : (b : Bool) → not b ≡ true → b ≡ false
not_true true e = absurd (false≢true e)
not_true false e = refl

same_by_log : (a b : Option Answer) → log.same_optional same_answer a b ≡ same_optional a b
same_by_log None None = refl
same_by_log None (Some b) = refl
same_by_log (Some a) None = refl
same_by_log (Some a) (Some b) = refl

-- ---- the requests of logged changes

abbrev key_of : Logged Who Answer → Triple
key_of c = c.key

any_key : (x : Triple) (cs : List (Logged Who Answer)) → list_any (eq_by_cmp request_order x) (map key_of cs) ≡ list_any (λ c. is_eq (request_order x c.key)) cs
any_key x [] = refl
any_key x (c ∷ cs) = ap (λ b. is_eq (request_order x c.key) || b) (any_key x cs)

told_keys : (cs : List (Logged Who Answer)) → map changed_request (map change_of cs) ≡ map key_of cs
told_keys [] = refl
told_keys (c ∷ cs) = ap (λ l. c.key ∷ l) (told_keys cs)

-- ---- the changes are the difference

module _ (m : AnswerMap) (s : State) where
  -- what the log finds
  abbrev logged : List (Logged Who Answer)
  logged = map_difference same_answer m (answers_of s)

  abbrev Has : Logged Who Answer → Type 0
  Has = HasAnswers (get m) (get (answers_of s))

  is_difference : IsDifference request_order same_answer (get m) (get (answers_of s)) logged
  is_difference = map_difference-difference requests-total answers.laws-law m (answers_of s)

  -- a change has a request exactly where the answers to it differ
  any_logged : (x : Triple) → list_any (eq_by_cmp request_order x) (map key_of logged) ≡ not (same_optional (get m x) (answer_at s x))
  any_logged x =
      any_key x logged ∙ is_difference.exact x
      ∙ ap not (same_by_log (get m x) (get (answers_of s) x) ∙ ap (same_optional (get m x)) (get-answers_of s x))

  logged_tells : (c : Logged Who Answer) → Contains logged c → IsChange m s (change_of c)
  logged_tells c h =
      let has : Has c = All-contains Has logged c is_difference.answers h in
      let there : list_any (eq_by_cmp request_order c.key) (map key_of logged) ≡ true =
      list_any-from_Contains (eq_by_cmp_equiv requests-total) c.key (map key_of logged) (mapped key_of logged c h) in
      record {
        differ = not_true (same_optional (get m c.key) (answer_at s c.key)) (sym (any_logged c.key) ∙ there);
        before = has.0;
        after = has.1 ∙ get-answers_of s c.key;
      }

  pub change_tells : (c : Change Answer) → Contains (changes_from m s) c → IsChange m s c
  change_tells c h =
      let d = from_mapped change_of logged c h in
      subst (IsChange m s) d.1.1 (logged_tells d.0 d.1.0)

  pub change_told : (c : Change Answer) → IsChange m s c → Contains (changes_from m s) c
  change_told c t =
      let x : Triple = changed_request c in
      let there : Contains (map key_of logged) x = Contains-from_any requests.same_request x (map key_of logged) (any_logged x ∙ ap not t.differ) in
      let d = from_mapped key_of logged x there in
      let has : Has d.0 = All-contains Has logged d.0 is_difference.answers d.1.0 in
      let before : d.0.before ≡ c.before = has.0 ∙ ap (get m) d.1.1 ∙ sym t.before in
      let after : d.0.after ≡ c.after = has.1 ∙ ap (get (answers_of s)) d.1.1 ∙ get-answers_of s x ∙ sym t.after in
      let is : change_of d.0 ≡ c =
      λ i. record { person = (d.1.1 i).person; action = (d.1.1 i).action; resource = (d.1.1 i).resource; before = before i; after = after i } in
      subst (Contains (changes_from m s)) is (mapped change_of logged d.0 d.1.0)

  pub changes-ascending : IsStrictlySortedBy request_order (map changed_request (changes_from m s))
  changes-ascending = subst (IsStrictlySortedBy request_order) (sym (told_keys logged)) is_difference.ascending

  pub are_the_difference : (cs : List (Change Answer)) → cs ≡ changes_from m s → AreTheDifference m s cs
  are_the_difference cs told =
      subst (AreTheDifference m s) (sym told)
      (record { exact = λ c. (change_tells c, change_told c); ascending = changes-ascending })
