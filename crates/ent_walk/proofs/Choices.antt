-- Targets of which some have been looked at, to find the only one that matches.
use Rattle.std.proofs.Common.{◌≡◌, ℕ, ◌+◌, ◌<◌, ◌≤◌, Bool, true, false, List, [], ◌∷◌, ◌++◌, length, take, drop, map, get_or, suc, refl, sym, ap, ◌∙◌, subst, append_assoc, add-one, arith}
use Rattle.std.specs.Prelude.{IfOk, OnOk, Result, Ok, Err, unwrap_or}
use Rattle.std.specs.List.{list_any}
use Rattle.std.proofs.Math.Seq.{take-suc}
use Rattle.std.proofs.Math.ListN.{drop_of_length-le}
use Rattle.std.proofs.lemmas.List.{append-nil, length-map, length-take-le, map-append, take-append-drop, take_all}
use Rattle.ent_combine.specs.Choose.{HasSeen, choose, is_bad, is_indeterminate, progress_at_target, progress_of}
use Rattle.ent_combine.specs.Chosen.{Chosen}
use Rattle.ent_combine.specs.Seen.{rest_to_passing}
use Rattle.ent_combine.specs.declared.chooser.Choice.{Choice}
use Rattle.ent_combine.specs.declared.chooser.Choice.TheVariants as choice
use Rattle.ent_combine.specs.declared.chooser.TargetResult.{TargetResult}
use Rattle.ent_combine.specs.declared.combiner.Progress.{Progress}
use Rattle.ent_combine.specs.declared.combiner.Progress.TheVariants.{Go, Stop}
use Rattle.ent_combine.proofs.Choosing.{bad_stays}
use Rattle.ent_request.specs.declared.answer.Status.TheVariants.{ProcessingError}
use Rattle.ent_walk.specs.declared.only.Only.{Only}
use Rattle.ent_walk.specs.declared.only.Only.TheVariants as only
use Rattle.ent_walk.specs.declared.target.Targeted.{Targeted}
use Rattle.ent_walk.specs.declared.target.Targeted.TheVariants.{Match, NoMatch, Indeterminate}
use Rattle.ent_walk.specs.declared.walk.Walk.{Walk}
use Rattle.ent_walk.specs.proofs_only.Comes.{Adds, Comes, Keeps}
use Rattle.ent_trace.specs.proofs_only.Noted.{Notes, noting}
use Rattle.ent_walk.specs.Only.{choice_part, chosen, first_target_status, result_of_target, results, seen_choice, several, spoils}
use Rattle.ent_walk.specs.proofs_only.Only.{second_match, status_of_target}
use Rattle.ent_request.specs.Part.{Part, notes_of, values}
use Rattle.ent_request.proofs.Lists.{at_item}
use Rattle.ent_walk.proofs.Going.{noting-append, noting_both, values_to, values_to-next}
use Rattle.ent_walk.proofs.Parts.{keeps_on}

-- the first i targets don't choose Bad, and those left are looked at as they would be from the start
pub record IsChoosing {X : Type 0} (target : X → Part Targeted) (xs : List X) (i : ℕ) (chooser : Chosen) (start now : Notes) : Type 0 where
  pub taken : HasSeen chooser (results (values_to target xs i))
  pub good : is_bad (choose (results (values_to target xs i))) ≡ false
  pub seen : seen_choice (map target xs) ≡ map target (take i xs) ++ rest_to_passing spoils (map target (take i xs)) (map target (drop i xs))
  pub notes : noting now (notes_of (rest_to_passing spoils (map target (take i xs)) (map target (drop i xs)))) ≡ noting start (notes_of (seen_choice (map target xs)))

go_good : (c : Choice) → Go ≡ progress_of c → is_bad c ≡ false
go_good choice.Nobody e = refl
go_good (choice.Only i) e = refl
go_good choice.Bad e = absurd (cc)

stop_bad : (c : Choice) → Stop ≡ progress_of c → c ≡ choice.Bad
stop_bad choice.Nobody e = absurd (cc)
stop_bad (choice.Only i) e = absurd (cc)
stop_bad choice.Bad e = refl

none_indeterminate : (ts : List TargetResult) → is_bad (choose ts) ≡ false → list_any is_indeterminate ts ≡ false
none_indeterminate ts good = at (list_any is_indeterminate ts) refl where
  at : (b : Bool) → list_any is_indeterminate ts ≡ b → list_any is_indeterminate ts ≡ false
  at true is = absurd (let e : is_bad (choose ts) ≡ true = rw is refl in cc)
  at false is = is

first_after : (ts : List Targeted) (t : Targeted) → list_any is_indeterminate (results ts) ≡ false → first_target_status (ts ++ t ∷ []) ≡ first_target_status (t ∷ [])
first_after [] t none = refl
first_after (Match ∷ ts) t none = first_after ts t none
first_after (NoMatch ∷ ts) t none = first_after ts t none
first_after (Indeterminate status ∷ ts) t none = absurd (cc)

alone : (t : Targeted) → unwrap_or (first_target_status (t ∷ [])) ProcessingError ≡ status_of_target t
alone Match = refl
alone NoMatch = refl
alone (Indeterminate status) = refl

second : (t : Targeted) → second_match t ≡ several choice.Bad (first_target_status (t ∷ []))
second Match = refl
second NoMatch = refl
second (Indeterminate status) = refl

taken-next : {X Y : Type 0} (f : X → Y) (xs : List X) (i : ℕ) (x : X) → i < length xs → x ≡ get_or xs i x → map f (take (i + 1) xs) ≡ map f (take i xs) ++ f x ∷ []
taken-next f xs i x h is = ap (map f) (rw add-one (take-suc xs i x h ∙ ap (λ y. take i xs ++ y ∷ []) (sym is))) ∙ map-append f (take i xs) (x ∷ [])

rest_on : (ps : List (Part Targeted)) (q : Part Targeted) (qs : List (Part Targeted)) → spoils (ps ++ q ∷ []) ≡ false → rest_to_passing spoils ps (q ∷ qs) ≡ q ∷ rest_to_passing spoils (ps ++ q ∷ []) qs
rest_on ps q qs not = rw not refl

rest_off : (ps : List (Part Targeted)) (q : Part Targeted) (qs : List (Part Targeted)) → spoils (ps ++ q ∷ []) ≡ true → rest_to_passing spoils ps (q ∷ qs) ≡ q ∷ []
rest_off ps q qs is = rw is refl

length-values : {A : Type 0} (ps : List (Part A)) → length (values ps) ≡ length ps
length-values [] = refl
length-values (p ∷ ps) = ap suc (length-values ps)

pub values-append : {A : Type 0} (ps qs : List (Part A)) → values (ps ++ qs) ≡ values ps ++ values qs
values-append [] qs = refl
values-append (p ∷ ps) qs = ap (λ vs. p.value ∷ vs) (values-append ps qs)

results_split : {X : Type 0} (target : X → Part Targeted) (xs : List X) (i : ℕ) → results (values (map target xs)) ≡ results (values_to target xs i) ++ results (values (map target (drop i xs)))
results_split target xs i =
    ap (λ ys. results (values (map target ys))) (sym (take-append-drop i xs)) ∙ ap (λ ps. results (values ps)) (map-append target (take i xs) (drop i xs))
    ∙ ap results (values-append (map target (take i xs)) (map target (drop i xs))) ∙ map-append result_of_target (values_to target xs i) (values (map target (drop i xs)))

module _ {X : Type 0} (target : X → Part Targeted) (xs : List X) (i : ℕ) (chooser : Chosen) (start now : Notes) (so_far : IsChoosing target xs i chooser start now) where
  length_to : i ≤ length xs → length (results (values_to target xs i)) ≡ i
  length_to h = length-map (values_to target xs i) result_of_target ∙ length-values (map target (take i xs)) ∙ length-map (take i xs) target ∙ length-take-le i xs h

  -- a chooser that has taken fewer targets than there are has room for one more
  pub room : i < length xs → length xs ≤ 256 → chooser.taken < 256
  room h below = let e : chooser.taken ≡ i = so_far.taken.taken ∙ length_to (omega (arith, h)) in omega (arith, e)

  module _ (x : X) (t : Targeted) (after : Chosen) (progress : Progress) (next : Notes) (below : i < length xs) (at : x ≡ get_or xs i x) (t-is : t ≡ (target x).value) (next-is : next ≡ noting now (target x).notes)
      (takes : (ts : List TargetResult) → HasSeen chooser ts → HasSeen after (ts ++ result_of_target t ∷ [])) (says : (ts : List TargetResult) → HasSeen chooser ts → progress ≡ progress_at_target ts (result_of_target t)) where
    results_next : results (values_to target xs (i + 1)) ≡ results (values_to target xs i) ++ result_of_target t ∷ []
    results_next = ap results (values_to-next target xs i x below at) ∙ map-append result_of_target (values_to target xs i) ((target x).value ∷ []) ∙ ap (λ v. results (values_to target xs i) ++ result_of_target v ∷ []) (sym t-is)

    here : map target (drop i xs) ≡ target x ∷ map target (drop (i + 1) xs)
    here = ap (map target) (at_item xs i x below at)

    parts_next : map target (take (i + 1) xs) ≡ map target (take i xs) ++ target x ∷ []
    parts_next = taken-next target xs i x below at

    choice_is : (b : Bool) → is_bad (choose (results (values_to target xs i) ++ result_of_target t ∷ [])) ≡ b → spoils (map target (take i xs) ++ target x ∷ []) ≡ b
    choice_is b is = ap spoils (sym parts_next) ∙ ap (λ rs. is_bad (choose rs)) results_next ∙ is

    pub next_choice : progress ≡ Go → IsChoosing target xs (i + 1) after start next
    next_choice go =
        let good : is_bad (choose (results (values_to target xs i) ++ result_of_target t ∷ [])) ≡ false = go_good _ (sym go ∙ says (results (values_to target xs i)) so_far.taken) in
        let on : rest_to_passing spoils (map target (take i xs)) (map target (drop i xs)) ≡ target x ∷ rest_to_passing spoils (map target (take (i + 1) xs)) (map target (drop (i + 1) xs)) =
        ap (rest_to_passing spoils (map target (take i xs))) here ∙ rest_on (map target (take i xs)) (target x) (map target (drop (i + 1) xs)) (choice_is false good)
        ∙ ap (λ ps. target x ∷ rest_to_passing spoils ps (map target (drop (i + 1) xs))) (sym parts_next) in
        record {
          taken = subst (HasSeen after) (sym results_next) (takes (results (values_to target xs i)) so_far.taken);
          good = ap (λ rs. is_bad (choose rs)) results_next ∙ good;
          seen = so_far.seen ∙ ap (λ ps. map target (take i xs) ++ ps) on ∙ sym (append_assoc (map target (take i xs)) (target x ∷ []) (rest_to_passing spoils (map target (take (i + 1) xs)) (map target (drop (i + 1) xs))))
              ∙ ap (λ ps. ps ++ rest_to_passing spoils (map target (take (i + 1) xs)) (map target (drop (i + 1) xs))) (sym parts_next);
          notes = ap (λ ks. noting ks (notes_of (rest_to_passing spoils (map target (take (i + 1) xs)) (map target (drop (i + 1) xs))))) next-is
              ∙ sym (noting-append now (target x).notes (notes_of (rest_to_passing spoils (map target (take (i + 1) xs)) (map target (drop (i + 1) xs)))))
              ∙ ap (λ ps. noting now (notes_of ps)) (sym on) ∙ so_far.notes;
        }

    off : progress ≡ Stop → rest_to_passing spoils (map target (take i xs)) (map target (drop i xs)) ≡ target x ∷ []
    off stop =
        let now_bad : choose (results (values_to target xs i) ++ result_of_target t ∷ []) ≡ choice.Bad = stop_bad _ (sym stop ∙ says (results (values_to target xs i)) so_far.taken) in
        ap (rest_to_passing spoils (map target (take i xs))) here ∙ rest_off (map target (take i xs)) (target x) (map target (drop (i + 1) xs)) (choice_is true (ap is_bad now_bad))

    all_bad : progress ≡ Stop → choose (results (values (map target xs))) ≡ choice.Bad
    all_bad stop =
        let now_bad : choose (results (values_to target xs i) ++ result_of_target t ∷ []) ≡ choice.Bad = stop_bad _ (sym stop ∙ says (results (values_to target xs i)) so_far.taken) in
        let split : results (values (map target xs)) ≡ results (values_to target xs (i + 1)) ++ results (values (map target (drop (i + 1) xs))) = results_split target xs (i + 1) in
        ap choose split ∙ bad_stays (results (values_to target xs (i + 1))) (results (values (map target (drop (i + 1) xs)))) (ap choose results_next ∙ now_bad)

    pub stop_value : progress ≡ Stop → only.Bad (status_of_target t) ≡ chosen (choose (results (values (map target xs)))) (values (seen_choice (map target xs)))
    stop_value stop =
        let last : seen_choice (map target xs) ≡ map target (take i xs) ++ target x ∷ [] = so_far.seen ∙ ap (λ ps. map target (take i xs) ++ ps) (off stop) in
        let same : values (seen_choice (map target xs)) ≡ values_to target xs i ++ t ∷ [] =
        ap values last ∙ ap values (sym parts_next) ∙ values_to-next target xs i x below at ∙ ap (λ v. values_to target xs i ++ v ∷ []) (sym t-is) in
        let status : unwrap_or (first_target_status (values (seen_choice (map target xs)))) ProcessingError ≡ status_of_target t =
        ap (λ vs. unwrap_or (first_target_status vs) ProcessingError) same
        ∙ ap (λ o. unwrap_or o ProcessingError) (first_after (values_to target xs i) t (none_indeterminate (results (values_to target xs i)) so_far.good)) ∙ alone t in
        ap only.Bad (sym status) ∙ ap (λ c. chosen c (values (seen_choice (map target xs)))) (sym (all_bad stop))

    -- and a second match fails
    pub stop_fails : progress ≡ Stop → second_match t ≡ several (choose (results (values (map target xs)))) (first_target_status (values (seen_choice (map target xs))))
    stop_fails stop =
        let last : seen_choice (map target xs) ≡ map target (take i xs) ++ target x ∷ [] = so_far.seen ∙ ap (λ ps. map target (take i xs) ++ ps) (off stop) in
        let same : values (seen_choice (map target xs)) ≡ values_to target xs i ++ t ∷ [] =
        ap values last ∙ ap values (sym parts_next) ∙ values_to-next target xs i x below at ∙ ap (λ v. values_to target xs i ++ v ∷ []) (sym t-is) in
        second t ∙ ap (several choice.Bad) (sym (ap first_target_status same ∙ first_after (values_to target xs i) t (none_indeterminate (results (values_to target xs i)) so_far.good)))
        ∙ ap (λ c. several c (first_target_status (values (seen_choice (map target xs))))) (sym (all_bad stop))

    pub stop_notes : progress ≡ Stop → next ≡ noting start (notes_of (seen_choice (map target xs)))
    stop_notes stop = next-is ∙ ap (noting now) (sym (append-nil (target x).notes)) ∙ ap (λ ps. noting now (notes_of ps)) (sym (off stop)) ∙ so_far.notes

    -- what a choice comes to that stops, behind what is noted of it
    pub stop_comes : {L E : Type 0} (r : Result Only E) (before between last : Walk L) → before.notes ≡ start → between.notes ≡ next → Keeps before between → progress ≡ Stop
        → IfOk r (λ o. o ≡ only.Bad (status_of_target t)) → OnOk r (Adds (second_match t) between last) → IfOk r (Comes (choice_part (map target xs)) before last)
    stop_comes (Ok o) before between last start-is next-is keeps stop value added = record {
      value = value ∙ stop_value stop;
      notes = added.notes ∙ ap (λ n. noting n (second_match t)) (next-is ∙ stop_notes stop) ∙ noting_both start (notes_of (seen_choice (map target xs))) (second_match t)
          ∙ ap (λ ns. noting start (notes_of (seen_choice (map target xs)) ++ ns)) (stop_fails stop) ∙ ap (λ n. noting n (choice_part (map target xs)).notes) (sym start-is);
      keeps = keeps_on before between last keeps added.keeps;
    }
    stop_comes (Err e) before between last start-is next-is keeps stop value added = tt

  -- where all targets were looked at
  all_results : length xs ≤ i → results (values_to target xs i) ≡ results (values (map target xs))
  all_results past = ap (λ ys. results (values (map target ys))) (take_all i xs past)

  pub end_value : length xs ≤ i → (c : Choice) → ((ts : List TargetResult) → HasSeen chooser ts → c ≡ choose ts) → c ≡ choose (results (values (map target xs)))
  end_value past c says = says (results (values_to target xs i)) so_far.taken ∙ ap choose (all_results past)

  pub end_good : length xs ≤ i → ((ts : List TargetResult) → HasSeen chooser ts → choice.Bad ≡ choose ts) → ⊥
  end_good past says =
      let e : choice.Bad ≡ choose (results (values_to target xs i)) = says (results (values_to target xs i)) so_far.taken in
      let good = so_far.good in
      let f : true ≡ false = ap is_bad e ∙ good in cc

  pub end_notes : length xs ≤ i → now ≡ noting start (notes_of (seen_choice (map target xs)))
  end_notes past = ap (λ ys. noting now (notes_of (rest_to_passing spoils (map target (take i xs)) (map target ys)))) (sym (drop_of_length-le xs past)) ∙ so_far.notes
