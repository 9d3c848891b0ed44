-- Sets of the values that are listed, as the code keeps them: words of its own contracts.
use Rattle.std.specs.Prelude.{◌≡◌, List, Bool, false, Option, Some, None}
use Rattle.std.specs.BTreeSet.{BTreeSet, contains_by}
use Rattle.std.specs.List.{list_any}
use Rattle.ent_values.specs.Order.{value_cmp}
use Rattle.ent_values.specs.Same.{same_value}
use Rattle.ent_values.specs.declared.value.Value.{Value}

-- a set has a value
abbrev pub has_value : BTreeSet Value → Value → Bool
has_value s v = contains_by (value_cmp v) s

-- it has those of a list
abbrev pub ListsAsSet : List Value → BTreeSet Value → Type 0
ListsAsSet values s = (v : Value) → has_value s v ≡ list_any (same_value v) values

-- it has those of a list, or none where there is no list
abbrev pub MaybeAsSet : Option (List Value) → BTreeSet Value → Type 0
MaybeAsSet None s = (v : Value) → has_value s v ≡ false
MaybeAsSet (Some values) s = ListsAsSet values s
