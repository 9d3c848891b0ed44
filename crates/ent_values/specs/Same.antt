-- Whether two types, values, parts of values, lists or bags are the same, and that this test decides it.
use Rattle.std.specs.Prelude.{◌≡◌, Bool, List}
use Rattle.std.specs.Bool.{Decides}
use Rattle.std.specs.Cmp.Lexicographic.{pointwise}
use Rattle.ent_values.specs.Bags.{Contents}
use Rattle.ent_values.specs.Calendar.{Day, TimeOfDay}
use Rattle.ent_values.specs.declared.value.Value.{Value}
use Rattle.ent_values.specs.contracts.bag.BagPartialEq.TheImpl as bags
use Rattle.ent_values.specs.contracts.datatype.DataTypePartialEq.TheImpl as types
use Rattle.ent_values.specs.contracts.date.DatePartialEq.TheImpl as dates
use Rattle.ent_values.specs.contracts.date_time.DateTimePartialEq.TheImpl as moments
use Rattle.ent_values.specs.contracts.time.TimePartialEq.TheImpl as times
use Rattle.ent_values.specs.contracts.value.ValuePartialEq.TheImpl as comparison
use Rattle.ent_values.specs.declared.datatype.DataType.{DataType}
use Rattle.ent_values.specs.declared.date_time.DateTime.{DateTime}

-- what `==` of two types answers
abbrev pub same_type : DataType → DataType → Bool
same_type = (types.ghosts).eq

-- what `==` of two values answers
abbrev pub same_value : Value → Value → Bool
same_value = (comparison.ghosts).eq

-- what `==` of two dates answers
abbrev pub same_date : Day → Day → Bool
same_date = (dates.ghosts).eq

-- what `==` of two times answers
abbrev pub same_time : TimeOfDay → TimeOfDay → Bool
same_time = (times.ghosts).eq

-- what `==` of two dateTimes answers
abbrev pub same_date_time : DateTime → DateTime → Bool
same_date_time = (moments.ghosts).eq

-- what `==` of two lists of values answers
abbrev pub same_values : List Value → List Value → Bool
same_values = pointwise same_value

-- what `==` of two bags answers
abbrev pub same_bag : Contents → Contents → Bool
same_bag = (bags.ghosts).eq

-- it answers whether they are equal
abbrev pub SameIsEqual : Type 0
SameIsEqual = (a b : Value) → Decides (same_value a b) (a ≡ b)

-- that of two types does
abbrev pub SameTypesAreEqual : Type 0
SameTypesAreEqual = (a b : DataType) → Decides (same_type a b) (a ≡ b)

-- that of two lists does
abbrev pub SameListsAreEqual : Type 0
SameListsAreEqual = (a b : List Value) → Decides (same_values a b) (a ≡ b)

-- that of two bags does
abbrev pub SameBagsAreEqual : Type 0
SameBagsAreEqual = (a b : Contents) → Decides (same_bag a b) (a ≡ b)
