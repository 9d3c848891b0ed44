-- Children of which some are evaluated and gathered.
use Rattle.std.proofs.Common.{◌≡◌, ℕ, ◌+◌, ◌<◌, ◌≤◌, Bool, true, false, List, [], ◌∷◌, ◌++◌, length, map, get_or, refl, sym, ap, ◌∙◌, subst}
use Rattle.std.specs.Prelude.{if◌then◌else◌}
use Rattle.std.proofs.Math.ListN.{drop_of_length-le}
use Rattle.std.proofs.lemmas.List.{append-nil}
use Rattle.ent_combine.specs.Combine.{combine, fixes, progress_at}
use Rattle.ent_combine.specs.Seen.{up_to_first, seen}
use Rattle.ent_combine.proofs.Combining.{enough}
use Rattle.ent_combine.specs.declared.combiner.Progress.{Progress}
use Rattle.ent_combine.specs.declared.combiner.Progress.TheVariants.{Go, Stop}
use Rattle.ent_combine.specs.declared.outcome.RuleAlg.{RuleAlg}
use Rattle.ent_policy.specs.declared.key.DocKey.{DocKey}
use Rattle.ent_request.specs.declared.answer.Answer.{Answer}
use Rattle.ent_walk.specs.declared.gather.Gathering.{Gathering}
use Rattle.ent_walk.specs.proofs_only.Gathered.{judged_by, HasGathered}
use Rattle.ent_walk.specs.Judged.{decisions, judged, judgement_of, stops}
use Rattle.ent_request.specs.Part.{Part, values, notes_of, seen_parts}
use Rattle.ent_trace.specs.proofs_only.Noted.{Notes, noting}
use Rattle.ent_walk.proofs.Going.{IsGoing, Stops, goes_on, stops_at, values_to, values_to-next}

decisions_seen : (algorithm : RuleAlg) (js : List Answer) → decisions (up_to_first (stops algorithm) js) ≡ seen algorithm (decisions js)
decisions_seen algorithm [] = refl
decisions_seen algorithm (j ∷ js) = decisions_at (fixes algorithm j.decision) algorithm j js (decisions_seen algorithm js) where
  decisions_at : (b : Bool) (algorithm : RuleAlg) (j : Answer) (js : List Answer) → decisions (up_to_first (stops algorithm) js) ≡ seen algorithm (decisions js)
      → decisions (if b then j ∷ [] else j ∷ up_to_first (stops algorithm) js) ≡ (if b then j.decision ∷ [] else j.decision ∷ seen algorithm (decisions js))
  decisions_at true algorithm j js later = refl
  decisions_at false algorithm j js later = ap (λ os. j.decision ∷ os) later

-- all children come to what those that are seen come to
pub judged_seen : (here : List DocKey) (algorithm : RuleAlg) (js : List Answer) → judged_by here algorithm (up_to_first (stops algorithm) js) ≡ judgement_of here algorithm js
judged_seen here algorithm js = ap (λ o. judged here algorithm o (up_to_first (stops algorithm) js)) (ap (combine algorithm) (decisions_seen algorithm js) ∙ sym (enough algorithm (decisions js)))

go_is : (b : Bool) → Go ≡ (if b then Stop else Go) → b ≡ false
go_is true e = absurd (cc)
go_is false e = refl

stop_is : (b : Bool) → Stop ≡ (if b then Stop else Go) → b ≡ true
stop_is true e = refl
stop_is false e = absurd (cc)

-- one more child that doesn't fix the result
pub next_child : {X : Type 0} (algorithm : RuleAlg) (part : X → Part Answer) (xs : List X) (i : ℕ) (x : X) (j : Answer) (progress : Progress) (g h : Gathering) (start now next : Notes)
    → i < length xs → x ≡ get_or xs i x → IsGoing (stops algorithm) part xs i start now → HasGathered algorithm g (values_to part xs i)
    → j ≡ (part x).value → next ≡ noting now (part x).notes
    → ((a : RuleAlg) (js : List Answer) → HasGathered a g js → HasGathered a h (js ++ j ∷ []))
    → ((a : RuleAlg) (js : List Answer) → HasGathered a g js → progress ≡ progress_at a j.decision)
    → progress ≡ Go
    → record { going : IsGoing (stops algorithm) part xs (i + 1) start next; gathered : HasGathered algorithm h (values_to part xs (i + 1)) }
next_child algorithm part xs i x j progress g h start now next lt at going has j-is next-is gathers says go = record {
  going = goes_on (stops algorithm) part xs i x start now next lt at going (ap (stops algorithm) (sym j-is) ∙ go_is (fixes algorithm j.decision) (sym go ∙ says algorithm (values_to part xs i) has)) next-is;
  gathered = subst (HasGathered algorithm h) (ap (λ v. values_to part xs i ++ v ∷ []) j-is ∙ sym (values_to-next part xs i x lt at)) (gathers algorithm (values_to part xs i) has);
}

-- the child that fixes the result
module _ {X : Type 0} (here : List DocKey) (algorithm : RuleAlg) (part : X → Part Answer) (xs : List X) (i : ℕ) (x : X) (j : Answer) (progress : Progress) (g h : Gathering) (start now next : Notes)
    (lt : i < length xs) (at : x ≡ get_or xs i x) (going : IsGoing (stops algorithm) part xs i start now) (has : HasGathered algorithm g (values_to part xs i)) (j-is : j ≡ (part x).value) (next-is : next ≡ noting now (part x).notes)
    (gathers : (a : RuleAlg) (js : List Answer) → HasGathered a g js → HasGathered a h (js ++ j ∷ []))
    (says : (a : RuleAlg) (js : List Answer) → HasGathered a g js → progress ≡ progress_at a j.decision) (stop : progress ≡ Stop) where
  stopped : Stops (stops algorithm) part xs (values_to part xs i ++ (part x).value ∷ []) start next
  stopped =
      stops_at (stops algorithm) part xs i x start now next lt at going (ap (stops algorithm) (sym j-is) ∙ stop_is (fixes algorithm j.decision) (sym stop ∙ says algorithm (values_to part xs i) has)) next-is

  pub last_child : (result : Answer) → ((js : List Answer) → HasGathered algorithm h js → result ≡ judged_by here algorithm js) → result ≡ judgement_of here algorithm (values (map part xs))
  last_child result finish =
      finish (values_to part xs i ++ j ∷ []) (gathers algorithm (values_to part xs i) has)
      ∙ ap (λ v. judged_by here algorithm (values_to part xs i ++ v ∷ [])) j-is ∙ ap (judged_by here algorithm) (sym stopped.seen) ∙ judged_seen here algorithm (values (map part xs))

  pub last_notes : next ≡ noting start (notes_of (seen_parts (stops algorithm) (map part xs)))
  last_notes = stopped.notes

-- no child fixes the result
module _ {X : Type 0} (algorithm : RuleAlg) (part : X → Part Answer) (xs : List X) (i : ℕ) (start now : Notes) (going : IsGoing (stops algorithm) part xs i start now) (past : length xs ≤ i) where
  pub all_children : (here : List DocKey) (g : Gathering) (result : Answer) → HasGathered algorithm g (values_to part xs i) → ((js : List Answer) → HasGathered algorithm g js → result ≡ judged_by here algorithm js)
      → result ≡ judgement_of here algorithm (values (map part xs))
  all_children here g result has finish =
      let seen_to : values_to part xs i ≡ up_to_first (stops algorithm) (values (map part xs)) =
      sym (append-nil (values_to part xs i)) ∙ ap (λ ys. values_to part xs i ++ up_to_first (stops algorithm) (values (map part ys))) (sym (drop_of_length-le xs past)) ∙ sym going.seen in
      finish (values_to part xs i) has ∙ ap (judged_by here algorithm) seen_to ∙ judged_seen here algorithm (values (map part xs))

  pub all_notes : now ≡ noting start (notes_of (seen_parts (stops algorithm) (map part xs)))
  all_notes = ap (λ ys. noting now (notes_of (seen_parts (stops algorithm) (map part ys)))) (sym (drop_of_length-le xs past)) ∙ going.notes
