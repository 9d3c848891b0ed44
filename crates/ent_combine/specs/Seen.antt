-- The part of a list that has to be looked at, and the laws that the rest doesn't matter.
use Rattle.std.specs.Prelude.{◌≡◌, ◌↔◌, Bool, true, false, if◌then◌else◌, List, [], ◌∷◌, ◌++◌}
use Rattle.std.specs.List.{list_any}
use Rattle.ent_combine.specs.declared.outcome.Outcome.{Outcome}
use Rattle.ent_combine.specs.declared.outcome.RuleAlg.{RuleAlg}
use Rattle.ent_combine.specs.declared.outcome.RuleAlg.TheVariants.{FirstApplicable}
use Rattle.ent_combine.specs.Combine.{combine, fixes, is_applicable}

-- the shortest prefix whose last member passes, else the whole list
abbrev pub up_to_first : {A : Type 0} → (A → Bool) → List A → List A
up_to_first p [] = []
up_to_first p (x ∷ xs) = if p x then x ∷ [] else x ∷ up_to_first p xs

-- the shortest part of `rest` with which `before` passes, else the whole of it
abbrev pub rest_to_passing : {A : Type 0} → (List A → Bool) → List A → List A → List A
rest_to_passing p before [] = []
rest_to_passing p before (x ∷ rest) = if p (before ++ x ∷ []) then x ∷ [] else x ∷ rest_to_passing p (before ++ x ∷ []) rest

-- the shortest prefix that passes and isn't empty, else the whole list
abbrev pub up_to_passing : {A : Type 0} → (List A → Bool) → List A → List A
up_to_passing p xs = rest_to_passing p [] xs

-- the outcomes up to the first that fixes the result
abbrev pub seen : RuleAlg → List Outcome → List Outcome
seen algorithm xs = up_to_first (fixes algorithm) xs

-- what isn't seen doesn't matter
abbrev pub SeenIsEnough : Type 0
SeenIsEnough = (algorithm : RuleAlg) (xs : List Outcome) → combine algorithm xs ≡ combine algorithm (seen algorithm xs)

-- a list with `x` comes to what `x` alone does, whatever stands before it (for first-applicable nothing that applies) and after it
abbrev pub DecidesAlone : RuleAlg → Outcome → Type 0
DecidesAlone algorithm x = (before after : List Outcome) → (algorithm ≡ FirstApplicable → list_any is_applicable before ≡ false) → combine algorithm (before ++ x ∷ after) ≡ combine algorithm (x ∷ [])

-- the outcomes that fix the result are those that decide it alone
abbrev pub FixesAlone : Type 0
FixesAlone = (algorithm : RuleAlg) (x : Outcome) → (fixes algorithm x ≡ true) ↔ DecidesAlone algorithm x
