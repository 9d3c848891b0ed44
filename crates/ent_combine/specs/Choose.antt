-- Which child a list of target results chooses (appendix C.9).
use Rattle.std.specs.Prelude.{◌≡◌, ℕ, ◌+◌, Bool, true, false, if◌then◌else◌, List, [], ◌∷◌, ◌++◌, length}
use Rattle.std.specs.List.{list_any}
use Rattle.ent_combine.specs.Chosen.{Chosen}
use Rattle.ent_combine.specs.Seen.{up_to_passing}
use Rattle.ent_combine.specs.declared.combiner.Progress.{Progress}
use Rattle.ent_combine.specs.declared.combiner.Progress.TheVariants.{Go, Stop}
use Rattle.ent_combine.specs.declared.chooser.Choice.{Choice}
use Rattle.ent_combine.specs.declared.chooser.Choice.TheVariants.{Nobody, Only, Bad}
use Rattle.ent_combine.specs.declared.chooser.TargetResult.{TargetResult}
use Rattle.ent_combine.specs.declared.chooser.TargetResult.TheVariants.{Match, Indeterminate}

-- whether a target applies
abbrev pub is_match : TargetResult → Bool
is_match Match = true
is_match _ = false

-- whether a target is Indeterminate
abbrev pub is_indeterminate : TargetResult → Bool
is_indeterminate Indeterminate = true
is_indeterminate _ = false

-- the places of those that match, the first of which is at `place`
abbrev pub matching_from : ℕ → List TargetResult → List ℕ
matching_from place [] = []
matching_from place (t ∷ ts) = if is_match t then place ∷ matching_from (place + 1) ts else matching_from (place + 1) ts

-- Nobody for no place, Only for one place, Bad for more
abbrev pub only_member : List ℕ → Choice
only_member [] = Nobody
only_member (place ∷ []) = Only place
only_member (place ∷ next ∷ places) = Bad

-- Bad where one is Indeterminate or two match, else the one that matches, Nobody where none does
abbrev pub choose : List TargetResult → Choice
choose ts = if list_any is_indeterminate ts then Bad else only_member (matching_from 0 ts)

-- a caller may stop at a choice that is Bad, and at no other
abbrev pub progress_of : Choice → Progress
progress_of Bad = Stop
progress_of _ = Go

-- whether a choice is Bad
abbrev pub is_bad : Choice → Bool
is_bad Bad = true
is_bad _ = false

-- the results up to the first Indeterminate or the second match, else all
abbrev pub seen_targets : List TargetResult → List TargetResult
seen_targets ts = up_to_passing (λ us. is_bad (choose us)) ts

-- what isn't seen doesn't matter
abbrev pub SeenTargetsAreEnough : Type 0
SeenTargetsAreEnough = (ts : List TargetResult) → choose ts ≡ choose (seen_targets ts)

-- the first Indeterminate and the second match end the search
abbrev pub progress_at_target : List TargetResult → TargetResult → Progress
progress_at_target ts t = progress_of (choose (ts ++ t ∷ []))

-- a chooser has taken these results
pub record HasSeen (c : Chosen) (ts : List TargetResult) : Type 0 where
  pub taken : c.taken ≡ length ts
  pub choice : c.choice ≡ choose ts

-- what follows doesn't change a choice that is Bad
abbrev pub BadStays : Type 0
BadStays = (ts us : List TargetResult) → choose ts ≡ Bad → choose (ts ++ us) ≡ Bad

-- a choice that nothing that follows changes is Bad
abbrev pub OnlyBadStays : Type 0
OnlyBadStays = (ts : List TargetResult) → ((us : List TargetResult) → choose (ts ++ us) ≡ choose ts) → choose ts ≡ Bad
