-- Which definitions may have a fault, as is seen of each apart from those to which it leads: words of the code's own contracts.
use Rattle.std.specs.Prelude.{◌≡◌, ◌⊎◌, ℕ, List, [], ◌∷◌, ◌++◌, Bool, true, false, not, Option, Some, Ok, get_or, map}
use Rattle.std.specs.Borrow.{Bor}
use Rattle.std.specs.BTreeSet.{BTreeSet}
use Rattle.std.specs.List.{flat_map, list_all}
use Rattle.serde_json.specs.Data.{Data}
use Rattle.ent_policy.specs.Limits.{is_among}
use Rattle.ent_policy.specs.declared.fault.DocFault.{DocFault}
use Rattle.ent_policy.specs.declared.fault.DocFault.TheVariants as fault
use Rattle.ent_policy.specs.declared.raw.RawExpression.{RawExpression}
use Rattle.ent_policy.specs.declared.raw.RawExpression.TheFolds.{fold-RawExpression}
use Rattle.ent_policy.specs.declared.raw.RawExpression.TheOpen.{RawExpression-F}
use Rattle.ent_policy.specs.declared.raw.RawVariableDefinition.{RawVariableDefinition}
use Rattle.ent_policy.specs.proofs_only.Order.{has_id}
use Rattle.ent_polform.specs.Form.{definition_of}
use Rattle.ent_polform.specs.Objects.{◌>>=◌}
use Rattle.lint_places.specs.Parts.{item}
use Rattle.lint_places.specs.Places.{is_faulty, scope_of_member}
use Rattle.lint_places.specs.Told.{Scope, each, first_fault, nowhere, of_rules}
use Rattle.lint_places.specs.declared.part.Part.{Part}
use Rattle.lint_places.specs.declared.part.Part.TheVariants as part
use Rattle.lint_places.specs.proofs_only.Clear.{AreFree}

-- what is told of a definition as the only one
unfoldable pub lone_told : Data → Option DocFault
lone_told d = first_fault (definition_of d >>= λ v. Ok (of_rules [] (v ∷ [])))

-- one level of an expression, with the variables of each argument
abbrev pub uses_step : RawExpression-F (List (List ℕ)) → List (List ℕ)
uses_step (RawExpression-F.Value value) = []
uses_step (RawExpression-F.Designator designator) = []
uses_step (RawExpression-F.Variable id) = id ∷ []
uses_step (RawExpression-F.Apply function arguments) = flat_map (λ ids. ids) arguments
uses_step (RawExpression-F.Function function) = []

-- the variables that an expression uses
abbrev pub uses : RawExpression → List (List ℕ)
uses = fold-RawExpression (List (List ℕ)) uses_step

-- the ids of some definitions
abbrev pub names_of : List RawVariableDefinition → List (List ℕ)
names_of vs = map (λ v. v.id) vs

-- the set has them
abbrev pub HasIds : List RawVariableDefinition → BTreeSet (Bor (List ℕ)) → Type 0
HasIds vs s = (q : List ℕ) → has_id s q ≡ is_among (names_of vs) q

-- beside some others, nothing is told of some definitions up to a fault of variables
abbrev pub Ends : List RawVariableDefinition → Type 0
Ends vs = (others : List RawVariableDefinition) × AreFree fault.Variable (vs ++ others)

-- the flags are of the definitions that use a variable which isn't defined, where each leads to an end but for those
pub record AreUsing (ds : List Data) (flags : List Bool) : Type 0 where
  pub variables : List RawVariableDefinition
  pub are_read : each definition_of ds ≡ Ok variables
  pub end : Ends variables
  pub are : flags ≡ map (λ v. not (list_all (is_among (names_of variables)) (uses v.expression))) variables

-- they are, or none is kept
abbrev pub MayBeUsing : List Data → List Bool → Type 0
MayBeUsing ds flags = (flags ≡ []) ⊎ AreUsing ds flags

-- a member whose flag is down doesn't have the fault
abbrev pub AreSuspectsIn : DocFault → Part → Scope → List Data → List Bool → Type 0
AreSuspectsIn f p s ds flags = (q : Part) (n : ℕ) (d : Data) → item p ≡ Some q → get_or flags n true ≡ false → is_faulty f q (scope_of_member p s ds n) d ≡ false

-- a definition whose flag is down doesn't
abbrev pub AreSuspects : DocFault → List Data → List Bool → Type 0
AreSuspects f ds flags = AreSuspectsIn f part.Definitions nowhere ds flags
