-- Bags of values.
use Rattle.std.specs.Prelude.{◌≡◌, List, All}
use Rattle.ent_values.specs.Types.{datatype_of}
use Rattle.ent_values.specs.declared.datatype.DataType.{DataType}
use Rattle.ent_values.specs.declared.value.Value.{Value}

-- a data type and values, in their order
pub record Contents : Type 0 where
  pub datatype : DataType
  pub values : List Value

-- every value has that type
abbrev pub AllOfType : DataType → List Value → Type 0
AllOfType datatype values = All (λ value. datatype_of value ≡ datatype) values
