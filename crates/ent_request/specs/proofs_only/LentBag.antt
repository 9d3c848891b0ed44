-- What is in a bag that is lent.
use Rattle.std.specs.Prelude.{◌≡◌, List}
use Rattle.ent_values.specs.Bags.{AllOfType}
use Rattle.ent_values.specs.declared.datatype.DataType.{DataType}
use Rattle.ent_values.specs.declared.value.Value.{Value}
use Rattle.ent_request.specs.declared.lent_bag.Lent.{Lent}
use Rattle.ent_request.specs.declared.lent_bag.Lent.TheVariants.{Lying, Owned}

-- the values, wherever they stand
abbrev pub lent_in : Lent → List Value
lent_in (Lying values) = values.now
lent_in (Owned bag) = bag.values

-- they have that type
abbrev pub AreTyped : DataType → Lent → Type 0
AreTyped datatype (Lying values) = AllOfType datatype values.now
AreTyped datatype (Owned bag) = bag.datatype ≡ datatype
