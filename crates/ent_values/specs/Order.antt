-- How types order, and values: by type, then by value.
use Rattle.std.specs.Prelude.{◌≡◌, ℕ, not}
use Rattle.std.specs.Cmp.Lexicographic.{slice_cmp}
use Rattle.std.specs.List.{prefix_len}
use Rattle.std.specs.Ordering.{bool_cmp, int_cmp, nat_cmp, on, then_cmp}
use Rattle.std.specs.declared.cmp.Ordering.{Ordering}
use Rattle.ent_values.specs.Calendar.{day_order, time_order}
use Rattle.ent_values.specs.Same.{same_type}
use Rattle.ent_values.specs.Types.{all_types, datatype_of}
use Rattle.ent_values.specs.contracts.datatype.DataTypeOrd.TheImpl as type_comparison
use Rattle.ent_values.specs.contracts.value.ValueOrd.TheImpl as comparison
use Rattle.ent_values.specs.declared.datatype.DataType.{DataType}
use Rattle.ent_values.specs.declared.date_time.DateTime.{DateTime}
use Rattle.ent_values.specs.declared.value.Value.{Value}
use Rattle.ent_values.specs.declared.value.Value.TheVariants as values

-- what `cmp` of two types answers
abbrev pub type_cmp : DataType → DataType → Ordering
type_cmp = (type_comparison.ghosts).cmp

-- how many types come before it: string, boolean, integer, date, anyURI, yearMonthDuration, time, dateTime
abbrev pub place_of : DataType → ℕ
place_of datatype = prefix_len (λ other. not (same_type other datatype)) all_types

-- of two types the one that comes before the other in the list of all types
abbrev pub type_order : DataType → DataType → Ordering
type_order a b = nat_cmp (place_of a) (place_of b)

-- `cmp` of types answers by this order
abbrev pub TypesOrderAsListed : Type 0
TypesOrderAsListed = (a b : DataType) → type_cmp a b ≡ type_order a b

-- what `cmp` of two values answers
abbrev pub value_cmp : Value → Value → Ordering
value_cmp = (comparison.ghosts).cmp

-- dateTimes by date, then by time
abbrev pub date_time_order : DateTime → DateTime → Ordering
date_time_order = then_cmp (on (λ moment. moment.date) day_order) (on (λ moment. moment.time) time_order)

-- texts by their bytes, false before true, numbers, durations, days and times the smaller first; of two types the one listed first
abbrev pub value_order : Value → Value → Ordering
value_order (values.Text a) (values.Text b) = slice_cmp nat_cmp a b
value_order (values.Boolean a) (values.Boolean b) = bool_cmp a b
value_order (values.Integer a) (values.Integer b) = int_cmp a b
value_order (values.Date a) (values.Date b) = day_order a b
value_order (values.AnyUri a) (values.AnyUri b) = slice_cmp nat_cmp a b
value_order (values.YearMonth a) (values.YearMonth b) = int_cmp a b
value_order (values.Time a) (values.Time b) = time_order a b
value_order (values.DateTime a) (values.DateTime b) = date_time_order a b
value_order a b = type_order (datatype_of a) (datatype_of b)

-- `cmp` answers by this order
abbrev pub OrderIsByTypeAndValue : Type 0
OrderIsByTypeAndValue = (a b : Value) → value_cmp a b ≡ value_order a b
