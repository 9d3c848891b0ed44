-- The values that JSON spells, where their data type is known.
use Rattle.std.specs.Prelude.{◌≡◌, true, IsTrue, Option, None, is_some, option_and_then}
use Rattle.serde_json.specs.Data as json
use Rattle.serde_json.specs.Data.{Data}
use Rattle.serde_json.specs.Find.{as_i64, as_str}
use Rattle.ent_values.specs.declared.datatype.DataType.{DataType}
use Rattle.ent_values.specs.declared.value.Value.{Value}
use Rattle.ent_values.specs.Reading.{value_of}
use Rattle.ent_values.specs.Types.{is_textual}
use Rattle.ent_policy.specs.Reading.{boolean_as, integer_as}

-- the value of that type: a text by the type's lexical form (appendix B.3), a boolean, or a whole number of 64 bits
unfoldable pub value_in : DataType → Data → Option Value
value_in datatype json.null = None
value_in datatype (json.boolean b) = boolean_as b datatype
value_in datatype (json.number n) = option_and_then (λ z. integer_as z datatype) (as_i64 n)
value_in datatype (json.string s) = value_of datatype s
value_in datatype (json.array ds) = None
value_in datatype (json.object ms) = None

-- a text, which alone takes memory when it is written
abbrev pub IsText : Data → Type 0
IsText d = IsTrue (is_some (as_str d))

-- a text of a type whose values hold their text, which alone takes memory when it is read
abbrev pub IsCopied : DataType → Data → Type 0
IsCopied datatype d = IsText d × (is_textual datatype ≡ true)
