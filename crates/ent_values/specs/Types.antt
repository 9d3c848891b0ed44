-- Data types and their names.
use Rattle.std.specs.Prelude.{◌≡◌, ℕ, Bool, true, false, List, [], ◌∷◌, ◌||◌, Option, Some, find, bytes_eq, codes}
use Rattle.ent_values.specs.declared.datatype.DataType.{DataType}
use Rattle.ent_values.specs.declared.datatype.DataType.TheVariants as types
use Rattle.ent_values.specs.declared.value.Value.{Value}
use Rattle.ent_values.specs.declared.value.Value.TheVariants as values

-- the URI of a type
unfoldable pub uri_of : DataType → List ℕ
uri_of types.Text = codes "http://www.w3.org/2001/XMLSchema#string"
uri_of types.Boolean = codes "http://www.w3.org/2001/XMLSchema#boolean"
uri_of types.Integer = codes "http://www.w3.org/2001/XMLSchema#integer"
uri_of types.Date = codes "http://www.w3.org/2001/XMLSchema#date"
uri_of types.AnyUri = codes "http://www.w3.org/2001/XMLSchema#anyURI"
uri_of types.YearMonth = codes "http://www.w3.org/2001/XMLSchema#yearMonthDuration"
uri_of types.Time = codes "http://www.w3.org/2001/XMLSchema#time"
uri_of types.DateTime = codes "http://www.w3.org/2001/XMLSchema#dateTime"

-- the short name of a type, the last word of its URI
unfoldable pub short_name_of : DataType → List ℕ
short_name_of types.Text = codes "string"
short_name_of types.Boolean = codes "boolean"
short_name_of types.Integer = codes "integer"
short_name_of types.Date = codes "date"
short_name_of types.AnyUri = codes "anyURI"
short_name_of types.YearMonth = codes "yearMonthDuration"
short_name_of types.Time = codes "time"
short_name_of types.DateTime = codes "dateTime"

-- a type whose values are texts, which take memory: a string or a URI
abbrev pub is_textual : DataType → Bool
is_textual types.Text = true
is_textual types.AnyUri = true
is_textual _ = false

-- every type
abbrev pub all_types : List DataType
all_types =
    types.Text ∷ types.Boolean ∷ types.Integer ∷ types.Date ∷ types.AnyUri ∷ types.YearMonth ∷ types.Time ∷ types.DateTime ∷ []

-- the type that a full URI or a short name stands for
unfoldable pub type_of : List ℕ → Option DataType
type_of name = find (λ datatype. bytes_eq name (uri_of datatype) || bytes_eq name (short_name_of datatype)) all_types

-- the type of a value
abbrev pub datatype_of : Value → DataType
datatype_of (values.Text text) = types.Text
datatype_of (values.Boolean boolean) = types.Boolean
datatype_of (values.Integer integer) = types.Integer
datatype_of (values.Date date) = types.Date
datatype_of (values.AnyUri uri) = types.AnyUri
datatype_of (values.YearMonth duration) = types.YearMonth
datatype_of (values.Time time) = types.Time
datatype_of (values.DateTime moment) = types.DateTime

-- the names of a type stand for that type
abbrev pub TypeNamesReadBack : Type 0
TypeNamesReadBack = (datatype : DataType) → (type_of (uri_of datatype) ≡ Some datatype) × (type_of (short_name_of datatype) ≡ Some datatype)
