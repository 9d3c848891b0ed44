-- To which variable definitions of a policy one of them leads: to itself, to those to which it refers, and on from there.
use Rattle.std.specs.Prelude.{ℕ, zero, suc, List, [], ◌∷◌, Bool, true, false, ◌&&◌, ◌||◌, Option, Some, None, Result, Ok, Err, bytes_eq, if◌then◌else◌, length, map, replicate, slice_set}
use Rattle.std.specs.List.{list_any, zip}
use Rattle.serde_json.specs.Data.{Data}
use Rattle.ent_policy.specs.declared.fault.DocFault.{DocFault}
use Rattle.ent_policy.specs.declared.raw.RawExpression.{RawExpression}
use Rattle.ent_policy.specs.declared.raw.RawExpression.TheOpen.{RawExpression-F}
use Rattle.ent_policy.specs.declared.raw.RawExpression.TheFolds.{fold-RawExpression}
use Rattle.ent_policy.specs.declared.raw.RawVariableDefinition.{RawVariableDefinition}
use Rattle.ent_polform.specs.Form.{definition_of}

-- one level of an expression, with each argument already seen
abbrev pub refers_step : List ℕ → RawExpression-F Bool → Bool
refers_step id (RawExpression-F.Value value) = false
refers_step id (RawExpression-F.Designator designator) = false
refers_step id (RawExpression-F.Variable other) = bytes_eq other id
refers_step id (RawExpression-F.Apply function arguments) = list_any (λ argument. argument) arguments
refers_step id (RawExpression-F.Function function) = false

-- an expression refers to a variable, itself or in an argument
abbrev pub refers : List ℕ → RawExpression → Bool
refers id = fold-RawExpression Bool (refers_step id)

-- a definition does by its expression; one that can't be read refers to none
abbrev pub refers_to : List ℕ → Option RawVariableDefinition → Bool
refers_to id None = false
refers_to id (Some v) = refers id v.expression

-- one of the definitions that are led to refers to the variable
abbrev pub is_referred : List ℕ → List (Bool × Option RawVariableDefinition) → Bool
is_referred id all = list_any (λ d. d.0 && refers_to id d.1) all

-- a definition is led to, or one that is led to refers to it
abbrev pub is_reached : List (Bool × Option RawVariableDefinition) → Bool × Option RawVariableDefinition → Bool
is_reached all (led, None) = led
is_reached all (led, Some v) = led || is_referred v.id all

-- what is led to in one step more
abbrev pub further : List (Option RawVariableDefinition) → List Bool → List Bool
further vs led = map (is_reached (zip led vs)) (zip led vs)

-- in so many steps more
abbrev pub further_by : ℕ → List (Option RawVariableDefinition) → List Bool → List Bool
further_by zero vs led = led
further_by (suc n) vs led = further_by n vs (further vs led)

-- the numbers of those that pass a test, of which the first has this number
abbrev pub numbers_of : {A : Type 0} → (A → Bool) → ℕ → List A → List ℕ
numbers_of test n [] = []
numbers_of test n (x ∷ xs) = if test x then n ∷ numbers_of test (suc n) xs else numbers_of test (suc n) xs

-- the numbers of the definitions that refer to the variable of one of them
abbrev pub referring : List (Option RawVariableDefinition) → Option RawVariableDefinition → List ℕ
referring vs None = []
referring vs (Some v) = numbers_of (refers_to v.id) 0 vs

-- a definition as read, if it can be
abbrev pub readable : Result RawVariableDefinition DocFault → Option RawVariableDefinition
readable (Ok v) = Some v
readable (Err f) = None

-- for each definition the numbers of those that refer to its variable
abbrev pub links : List Data → List (List ℕ)
links ds = map (referring (map (λ d. readable (definition_of d)) ds)) (map (λ d. readable (definition_of d)) ds)

-- the definition of that number alone
abbrev pub only : ℕ → List Data → List Bool
only n ds = slice_set (replicate (length ds) false) n true

-- to which definitions the one of that number leads: no more steps are needed than there are definitions
unfoldable pub led : List Data → ℕ → List Bool
led ds n = further_by (length ds) (map (λ d. readable (definition_of d)) ds) (only n ds)
