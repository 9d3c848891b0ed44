-- Arguments and results: their types, and how a function reads them.
use Rattle.std.specs.Prelude.{◌≡◌, ◌<◌, nat_lt, ◌&&◌, ℕ, ℤ, Bool, true, false, length, List, [], ◌∷◌, Result, Ok, Err, Option, Some, None, filter_map, flat_map}
use Rattle.ent_values.specs.Calendar.{Day}
use Rattle.ent_values.specs.Types.{datatype_of, is_textual}
use Rattle.ent_values.specs.declared.value.Value.{Value}
use Rattle.ent_values.specs.declared.value.Value.TheVariants as values
use Rattle.ent_functions.specs.declared.arg.Arg.{Arg}
use Rattle.ent_functions.specs.declared.arg.Arg.TheVariants.{One, Many, Fun}
use Rattle.ent_functions.specs.declared.arg.Fault.{Fault}
use Rattle.ent_functions.specs.declared.arg.Fault.TheVariants.{DivideByZero, Overflow, NotSingle, DateRange, Memory}
use Rattle.ent_functions.specs.declared.types.ArgType.{ArgType}
use Rattle.ent_functions.specs.declared.types.ArgType.TheVariants as types

-- the type of an argument or of a result
abbrev pub type_of_arg : Arg → ArgType
type_of_arg (One value) = types.One (datatype_of value)
type_of_arg (Many bag) = types.Many bag.datatype
type_of_arg (Fun function) = types.Fun function

-- a result takes memory: a string or URI, or a bag with a value in it
abbrev pub TakesMemory : Result Arg Fault → Type 0
TakesMemory (Ok (One value)) = is_textual (datatype_of value) ≡ true
TakesMemory (Ok (Many bag)) = 0 < length bag.values
TakesMemory _ = ⊥

-- want of memory may be the answer: where values are put in order, or else of a result that takes memory
abbrev pub MayWant : Bool → Result Arg Fault → Type 0
MayWant true defined = Unit {0}
MayWant false defined = TakesMemory defined

-- an answer is what the function is defined to come to, or want of memory where that takes memory or values are put in order
abbrev pub Applies : Bool → Result Arg Fault → Result Arg Fault → Type 0
Applies ordering defined (Ok outcome) = defined ≡ Ok outcome
Applies ordering defined (Err Memory) = MayWant ordering defined
Applies ordering defined (Err DivideByZero) = defined ≡ Err DivideByZero
Applies ordering defined (Err Overflow) = defined ≡ Err Overflow
Applies ordering defined (Err NotSingle) = defined ≡ Err NotSingle
Applies ordering defined (Err DateRange) = defined ≡ Err DateRange

-- two bags both have more than 16 values
abbrev pub are_many : List Value → List Value → Bool
are_many first second = nat_lt 16 (length first) && nat_lt 16 (length second)

-- the arguments are two such bags
abbrev pub are_many_bags : List Arg → Bool
are_many_bags (Many first ∷ Many second ∷ []) = are_many first.values second.values
are_many_bags _ = false

-- what a function comes to where its arguments have no result type, and nowhere else (`WellTypedCallsHaveAnswers`): no fault of a function is Memory
abbrev pub ill_typed : Result Arg Fault
ill_typed = Err Memory

-- a value, or a fault of the function's own
abbrev pub HasAnswer : Result Arg Fault → Type 0
HasAnswer (Ok outcome) = Unit {0}
HasAnswer (Err Memory) = ⊥
HasAnswer (Err DivideByZero) = Unit {0}
HasAnswer (Err Overflow) = Unit {0}
HasAnswer (Err NotSingle) = Unit {0}
HasAnswer (Err DateRange) = Unit {0}

-- a boolean as a result
abbrev pub truth : Bool → Result Arg Fault
truth boolean = Ok (One (values.Boolean boolean))

-- an integer as a result
abbrev pub integer : ℤ → Result Arg Fault
integer number = Ok (One (values.Integer number))

-- whether an argument, or a result, is True
abbrev pub is_true : Arg → Bool
is_true (One (values.Boolean boolean)) = boolean
is_true _ = false

abbrev pub comes_true : Result Arg Fault → Bool
comes_true (Ok outcome) = is_true outcome
comes_true (Err fault) = false

-- the integer that an argument is
abbrev pub integer_in : Arg → Option ℤ
integer_in (One (values.Integer number)) = Some number
integer_in _ = None

-- the integers among the arguments, in order
abbrev pub integers_of : List Arg → List ℤ
integers_of arguments = filter_map integer_in arguments

-- the text that an argument is
abbrev pub text_in : Arg → Option (List ℕ)
text_in (One (values.Text text)) = Some text
text_in _ = None

-- the strings among the arguments, in order
abbrev pub texts_of : List Arg → List (List ℕ)
texts_of arguments = filter_map text_in arguments

-- the values that an argument holds, itself or as a bag
abbrev pub values_in : Arg → List Value
values_in (One value) = value ∷ []
values_in (Many bag) = bag.values
values_in (Fun function) = []

-- the values that the arguments hold, in order
abbrev pub values_of : List Arg → List Value
values_of arguments = flat_map values_in arguments

-- a function of one boolean
abbrev pub of_boolean : (Bool → Result Arg Fault) → List Arg → Result Arg Fault
of_boolean f (One (values.Boolean boolean) ∷ []) = f boolean
of_boolean f _ = ill_typed

-- a function of one integer
abbrev pub of_integer : (ℤ → Result Arg Fault) → List Arg → Result Arg Fault
of_integer f (One (values.Integer number) ∷ []) = f number
of_integer f _ = ill_typed

-- a function of two values
abbrev pub of_two_values : (Value → Value → Result Arg Fault) → List Arg → Result Arg Fault
of_two_values f (One first ∷ One second ∷ []) = f first second
of_two_values f _ = ill_typed

-- a function of two integers
abbrev pub of_integers : (ℤ → ℤ → Result Arg Fault) → Value → Value → Result Arg Fault
of_integers f (values.Integer first) (values.Integer second) = f first second
of_integers f _ _ = ill_typed

-- a function of two strings
abbrev pub of_texts : (List ℕ → List ℕ → Result Arg Fault) → Value → Value → Result Arg Fault
of_texts f (values.Text first) (values.Text second) = f first second
of_texts f _ _ = ill_typed

-- a function of a date and a duration
abbrev pub of_date_and_months : (Day → ℤ → Result Arg Fault) → Value → Value → Result Arg Fault
of_date_and_months f (values.Date date) (values.YearMonth months) = f date months
of_date_and_months f _ _ = ill_typed

-- a function of one bag
abbrev pub of_bag : (List Value → Result Arg Fault) → List Arg → Result Arg Fault
of_bag f (Many bag ∷ []) = f bag.values
of_bag f _ = ill_typed

-- a function of a value and a bag
abbrev pub of_value_and_bag : (Value → List Value → Result Arg Fault) → List Arg → Result Arg Fault
of_value_and_bag f (One value ∷ Many bag ∷ []) = f value bag.values
of_value_and_bag f _ = ill_typed

-- a function of two bags
abbrev pub of_two_bags : (List Value → List Value → Result Arg Fault) → List Arg → Result Arg Fault
of_two_bags f (Many first ∷ Many second ∷ []) = f first.values second.values
of_two_bags f _ = ill_typed
