-- Definitions in an order in which each uses only earlier ones.
use Rattle.std.specs.Prelude.{◌≡◌, ℕ, List, [], ◌∷◌, Bool, true, false, ◌||◌, Option, Some, None, is_some, bytes_eq, map}
use Rattle.std.specs.Borrow.{Bor}
use Rattle.std.specs.BTreeSet.{BTreeSet, contains_by}
use Rattle.std.specs.Cmp.Lexicographic.{slice_cmp}
use Rattle.std.specs.Ordering.{nat_cmp}
use Rattle.std.specs.List.{list_all}
use Rattle.std.specs.Global.{Vec}
use Rattle.ent_policy.specs.declared.document.Policy.{Policy}
use Rattle.ent_policy.specs.declared.expression.VariableDefinition.{VariableDefinition}
use Rattle.ent_policy.specs.Limits.{has_double, is_among}
use Rattle.ent_policy.specs.Variables.{definition_of, has_bad_variable, ids_of, is_resolved, uses_only}

-- whether a set has an id
abbrev pub has_id : BTreeSet (Bor (List ℕ)) → List ℕ → Bool
has_id s id = contains_by (λ k. slice_cmp nat_cmp id k.now) s

-- the ids of the definitions, none of which is repeated; or none, where one is
abbrev pub AreDistinctIds : List VariableDefinition → Option (BTreeSet (Bor (List ℕ))) → Type 0
AreDistinctIds definitions None = has_double (ids_of definitions) ≡ true
AreDistinctIds definitions (Some s) = (has_double (ids_of definitions) ≡ false)
    × ((id : List ℕ) → has_id s id ≡ is_among (ids_of definitions) id)

-- each of them defines its id, and uses only variables that pass or are defined by an earlier one
abbrev pub IsInOrder : List VariableDefinition → (List ℕ → Bool) → List VariableDefinition → Type 0
IsInOrder definitions passes [] = Unit {0}
IsInOrder definitions passes (d ∷ ds) = (definition_of definitions d.id ≡ Some d)
    × (uses_only passes d.expression ≡ true)
    × IsInOrder definitions (λ id. bytes_eq id d.id || passes id) ds

-- all definitions in order, each of which leads to an end
pub record IsOrderOf (definitions ordered : List VariableDefinition) : Type 0 where
  pub in_order : IsInOrder definitions (λ id. false) ordered
  pub whole : (id : List ℕ) → is_some (definition_of definitions id) ≡ true → is_among (ids_of ordered) id ≡ true
  pub resolved : list_all (is_resolved definitions) (ids_of definitions) ≡ true

-- the definitions in order; or none, where one leads to no end
abbrev pub IsFoundOrder : List VariableDefinition → Option (Vec (Bor VariableDefinition)) → Type 0
IsFoundOrder definitions None = list_all (is_resolved definitions) (ids_of definitions) ≡ false
IsFoundOrder definitions (Some order) = IsOrderOf definitions (map (λ d. d.now) order.items)

-- the definitions of a policy in order, where no variable of it is bad
abbrev pub IsOrdered : Policy → Option (Vec (Bor VariableDefinition)) → Type 0
IsOrdered p None = has_bad_variable p ≡ true
IsOrdered p (Some order) = (has_bad_variable p ≡ false) × IsOrderOf p.variables (map (λ d. d.now) order.items)
