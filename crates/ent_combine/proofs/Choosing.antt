-- One more target.
use Rattle.std.proofs.Common.{◌≡◌, ℕ, ◌+◌, Bool, true, false, ◌||◌, List, [], ◌∷◌, ◌++◌, length, refl, ap, sym, ◌∙◌, arith, zero-add, append-nil, append_assoc}
use Rattle.std.specs.Prelude.{if◌then◌else◌}
use Rattle.std.specs.List.{list_any}
use Rattle.std.proofs.lemmas.List.Folds.{list_any-append}
use Rattle.ent_combine.specs.Choose.{is_indeterminate, matching_from, only_member, choose, is_bad, seen_targets}
use Rattle.ent_combine.specs.proofs_only.Choose.{with_target}
use Rattle.ent_combine.specs.Seen.{rest_to_passing}
use Rattle.ent_combine.specs.declared.chooser.Choice.TheVariants.{Nobody, Only, Bad}
use Rattle.ent_combine.specs.declared.chooser.Choice.{Choice}
use Rattle.ent_combine.specs.declared.chooser.TargetResult.{TargetResult}
use Rattle.ent_combine.specs.declared.chooser.TargetResult.TheVariants.{Match, NoMatch, Indeterminate}

matching-append : (place : ℕ) (ts : List TargetResult) (t : TargetResult) → matching_from place (ts ++ t ∷ []) ≡ matching_from place ts ++ matching_from (place + length ts) (t ∷ [])
matching-append place [] t = let e : place ≡ place + 0 = omega arith in ap (λ k. matching_from k (t ∷ [])) e
matching-append place (s ∷ ts) t = let e : place + 1 + length ts ≡ place + length (s ∷ ts) = omega arith in
    matching_at place s ts t (matching-append (place + 1) ts t ∙ ap (λ k. matching_from (place + 1) ts ++ matching_from k (t ∷ [])) e) where
      matching_at : (place : ℕ) (s : TargetResult) (ts : List TargetResult) (t : TargetResult) → matching_from (place + 1) (ts ++ t ∷ []) ≡ matching_from (place + 1) ts ++ matching_from (place + length (s ∷ ts)) (t ∷ [])
          → matching_from place ((s ∷ ts) ++ t ∷ []) ≡ matching_from place (s ∷ ts) ++ matching_from (place + length (s ∷ ts)) (t ∷ [])
      matching_at place Match ts t is = ap (λ ks. place ∷ ks) is
      matching_at place NoMatch ts t is = is
      matching_at place Indeterminate ts t is = is

only_more : (ks : List ℕ) (place : ℕ) (t : TargetResult) → (if is_indeterminate t then Bad else only_member (ks ++ matching_from place (t ∷ []))) ≡ with_target (only_member ks) place t
only_more ks place Indeterminate = refl
only_more [] place NoMatch = refl
only_more [] place Match = refl
only_more (k ∷ []) place NoMatch = refl
only_more (k ∷ []) place Match = refl
only_more (k ∷ l ∷ ks) place NoMatch = refl
only_more (k ∷ l ∷ ks) place Match = refl

bad_with : (place : ℕ) (t : TargetResult) → Bad ≡ with_target Bad place t
bad_with place Match = refl
bad_with place NoMatch = refl
bad_with place Indeterminate = refl

choose_at : (b : Bool) (ks : List ℕ) (place : ℕ) (t : TargetResult) → (if b || (is_indeterminate t || false) then Bad else only_member (ks ++ matching_from place (t ∷ []))) ≡ with_target (if b then Bad else only_member ks) place t
choose_at true ks place t = bad_with place t
choose_at false ks place Match = only_more ks place Match
choose_at false ks place NoMatch = only_more ks place NoMatch
choose_at false ks place Indeterminate = refl

pub more_targets : (ts : List TargetResult) (t : TargetResult) → choose (ts ++ t ∷ []) ≡ with_target (choose ts) (length ts) t
more_targets ts t = rw (list_any-append, matching-append 0 ts t, zero-add) (choose_at (list_any is_indeterminate ts) (matching_from 0 ts) (length ts) t)

-- results that follow don't change a choice that is Bad
pub bad_stays : (ts us : List TargetResult) → choose ts ≡ Bad → choose (ts ++ us) ≡ Bad
bad_stays ts [] is = rw append-nil is
bad_stays ts (u ∷ us) is = rw (sym (append_assoc ts (u ∷ []) us)) (bad_stays (ts ++ u ∷ []) us (more_targets ts u ∙ rw is (sym (bad_with (length ts) u))))

two_matches : (choice : Choice) (place next : ℕ) → with_target (with_target choice place Match) next Match ≡ Bad
two_matches Nobody place next = refl
two_matches (Only i) place next = refl
two_matches Bad place next = refl

-- two matches more make any choice Bad
pub only_bad_stays : (ts : List TargetResult) → ((us : List TargetResult) → choose (ts ++ us) ≡ choose ts) → choose ts ≡ Bad
only_bad_stays ts same =
    let after : choose ((ts ++ Match ∷ []) ++ Match ∷ []) ≡ Bad = more_targets (ts ++ Match ∷ []) Match ∙ rw (more_targets ts Match) (two_matches (choose ts) (length ts) (length (ts ++ Match ∷ []))) in
    sym (same (Match ∷ Match ∷ [])) ∙ rw (sym (append_assoc ts (Match ∷ []) (Match ∷ []))) after

-- what isn't Bad had no part that was
not_bad_before : (ts us : List TargetResult) → is_bad (choose (ts ++ us)) ≡ false → is_bad (choose ts) ≡ false
not_bad_before ts us is = at (choose ts) refl where
  at : (choice : Choice) → choose ts ≡ choice → is_bad choice ≡ false
  at Nobody was = refl
  at (Only i) was = refl
  at Bad was = absurd (let e : choose (ts ++ us) ≡ Bad = bad_stays ts us was in (cc))

whole_rest : (before rest : List TargetResult) → is_bad (choose (before ++ rest)) ≡ false → rest_to_passing (λ us. is_bad (choose us)) before rest ≡ rest
whole_rest before [] is = refl
whole_rest before (t ∷ rest) is =
    let apart : is_bad (choose ((before ++ t ∷ []) ++ rest)) ≡ false = rw append_assoc is in
    rw (not_bad_before (before ++ t ∷ []) rest apart) (ap (λ us. t ∷ us) (whole_rest (before ++ t ∷ []) rest apart))

-- without a Bad choice all results are seen
pub all_seen : (ts : List TargetResult) → is_bad (choose ts) ≡ false → seen_targets ts ≡ ts
all_seen ts is = whole_rest [] ts is

rest_to_bad : (before ts us : List TargetResult) (t : TargetResult) → is_bad (choose (before ++ ts)) ≡ false → is_bad (choose (before ++ (ts ++ t ∷ []))) ≡ true
    → rest_to_passing (λ vs. is_bad (choose vs)) before (ts ++ t ∷ us) ≡ ts ++ t ∷ []
rest_to_bad before [] us t not_yet now = rw now refl
rest_to_bad before (s ∷ ts) us t not_yet now =
    let apart : is_bad (choose ((before ++ s ∷ []) ++ ts)) ≡ false = rw append_assoc not_yet in
    let grown : is_bad (choose ((before ++ s ∷ []) ++ (ts ++ t ∷ []))) ≡ true = rw append_assoc now in
    rw (not_bad_before (before ++ s ∷ []) ts apart) (ap (λ vs. s ∷ vs) (rest_to_bad (before ++ s ∷ []) ts us t apart grown))

-- the result that makes the choice Bad is the last that is seen
pub seen_to_bad : (ts us : List TargetResult) (t : TargetResult) → is_bad (choose ts) ≡ false → is_bad (choose (ts ++ t ∷ [])) ≡ true → seen_targets (ts ++ t ∷ us) ≡ ts ++ t ∷ []
seen_to_bad ts us t not_yet now = rest_to_bad [] ts us t not_yet now

rest_enough : (before rest : List TargetResult) → choose (before ++ rest) ≡ choose (before ++ rest_to_passing (λ us. is_bad (choose us)) before rest)
rest_enough before [] = refl
rest_enough before (t ∷ rest) = at (choose (before ++ t ∷ [])) refl (rest_enough (before ++ t ∷ []) rest) where
  at : (choice : Choice) → choose (before ++ t ∷ []) ≡ choice
      → choose ((before ++ t ∷ []) ++ rest) ≡ choose ((before ++ t ∷ []) ++ rest_to_passing (λ us. is_bad (choose us)) (before ++ t ∷ []) rest)
      → choose (before ++ t ∷ rest) ≡ choose (before ++ (if is_bad choice then t ∷ [] else t ∷ rest_to_passing (λ us. is_bad (choose us)) (before ++ t ∷ []) rest))
  at Bad was later = rw (← append_assoc before (t ∷ []) rest, bad_stays (before ++ t ∷ []) rest was) (sym was)
  at Nobody was later = simp append_assoc at later
  at (Only i) was later = simp append_assoc at later

-- the results that are seen choose what all do
pub seen_targets_enough : (ts : List TargetResult) → choose ts ≡ choose (seen_targets ts)
seen_targets_enough ts = rest_enough [] ts
