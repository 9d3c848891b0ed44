-- Sets of values in their order.
use Rattle.std.specs.Prelude.{◌≡◌, Bool, List}
use Rattle.std.specs.Borrow.{Bor}
use Rattle.std.specs.BTreeSet.{BTreeSet, contains_by}
use Rattle.ent_values.specs.Order.{value_cmp}
use Rattle.ent_values.specs.declared.value.Value.{Value}
use Rattle.ent_functions.specs.Sets.{each_once, is_among}
use Rattle.ent_functions.specs.declared.among.Among.{Among}
use Rattle.ent_functions.specs.declared.among.Among.TheVariants.{Few, Many}

-- whether a set has a value
abbrev pub has_value : BTreeSet (Bor Value) → Value → Bool
has_value ordered value = contains_by (λ other. value_cmp value other.now) ordered

-- it has the values of a list
abbrev pub HasAll : List Value → BTreeSet (Bor Value) → Type 0
HasAll values ordered = (value : Value) → has_value ordered value ≡ is_among value values

-- a list has each of some values once, where it first stands, and a set has them too
pub record AreFound (values found : List Value) (seen : BTreeSet (Bor Value)) : Type 0 where
  pub once : found ≡ each_once values
  pub seen_all : HasAll values seen

-- whether a value is among others
abbrev pub has : Among → Value → Bool
has (Few values) value = is_among value values.now
has (Many ordered) value = has_value ordered value

-- the others are those of a list
abbrev pub IsAmong : List Value → Among → Type 0
IsAmong values among = (value : Value) → has among value ≡ is_among value values
