-- What a function reads of its arguments.
use Rattle.std.specs.Prelude.{◌≡◌, Bool, true, false, List, [], ◌∷◌, map, length, filter, All, Option, Some, None, IsSome}
use Rattle.ent_values.specs.Bags.{AllOfType, Contents}
use Rattle.ent_values.specs.Types.{datatype_of}
use Rattle.ent_values.specs.declared.datatype.DataType.{DataType}
use Rattle.ent_values.specs.declared.datatype.DataType.TheVariants as data_types
use Rattle.ent_values.specs.declared.value.Value.{Value}
use Rattle.ent_functions.specs.Arguments.{type_of_arg, values_in}
use Rattle.ent_functions.specs.Higher.{in_place_of_bag}
use Rattle.ent_functions.specs.Types.{first_order_type, is_bag, is_boolean, one_of}
use Rattle.ent_functions.specs.declared.arg.Arg.{Arg}
use Rattle.ent_functions.specs.declared.arg.Arg.TheVariants.{One, Many, Fun}
use Rattle.ent_functions.specs.declared.function.Function.{Function}
use Rattle.ent_functions.specs.declared.function.Function.TheVariants as functions

-- the function takes these arguments
abbrev pub Takes : Function → List Arg → Type 0
Takes function arguments = IsSome (first_order_type function (map type_of_arg arguments))

-- they are two values
abbrev pub AreTwoValues : List Arg → Type 0
AreTwoValues arguments = (first second : Value) × (arguments ≡ One first ∷ One second ∷ [])

-- they are one bag
abbrev pub AreOneBag : List Arg → Type 0
AreOneBag arguments = (bag : Contents) × (arguments ≡ Many bag ∷ [])

-- they are a value and a bag
abbrev pub AreValueAndBag : List Arg → Type 0
AreValueAndBag arguments = (value : Value) × (bag : Contents) × (arguments ≡ One value ∷ Many bag ∷ [])

-- they are two bags
abbrev pub AreTwoBags : List Arg → Type 0
AreTwoBags arguments = (first second : Contents) × (arguments ≡ Many first ∷ Many second ∷ [])

-- an argument as a function sees it that is given a value in the bag's place, or nothing in its place
abbrev pub seen_argument : Option Value → Arg → Arg
seen_argument None argument = argument
seen_argument (Some value) argument = in_place_of_bag value argument

-- the arguments so seen
abbrev pub seen_arguments : Option Value → List Arg → List Arg
seen_arguments value arguments = map (seen_argument value) arguments

-- a function of two values that gives a boolean
abbrev pub is_test_of_two : Function → Bool
is_test_of_two (functions.Equal element) = true
is_test_of_two (functions.Compare comparison order) = true
is_test_of_two functions.StartsWith = true
is_test_of_two functions.EndsWith = true
is_test_of_two functions.Contains = true
is_test_of_two _ = false

-- a function of values that gives a boolean
abbrev pub is_test : Function → Bool
is_test functions.Or = true
is_test functions.And = true
is_test functions.Not = true
is_test function = is_test_of_two function

-- a function of two integers
abbrev pub is_of_two_integers : Function → Bool
is_of_two_integers functions.Subtract = true
is_of_two_integers functions.Divide = true
is_of_two_integers functions.Mod = true
is_of_two_integers _ = false

-- a function of integers
abbrev pub is_arithmetic : Function → Bool
is_arithmetic functions.Add = true
is_arithmetic functions.Multiply = true
is_arithmetic functions.Abs = true
is_arithmetic function = is_of_two_integers function

-- T-one-and-only
abbrev pub is_one_and_only : Function → Bool
is_one_and_only (functions.OneAndOnly element) = true
is_one_and_only _ = false

-- a function of one bag, or of a value and a bag
abbrev pub is_of_bag : Function → Bool
is_of_bag (functions.OneAndOnly element) = true
is_of_bag (functions.BagSize element) = true
is_of_bag (functions.IsIn element) = true
is_of_bag _ = false

-- a function that gives a bag
abbrev pub makes_bag : Function → Bool
makes_bag (functions.Bag element) = true
makes_bag (functions.Union element) = true
makes_bag (functions.Intersection element) = true
makes_bag _ = false

-- a function that compares two bags as sets
abbrev pub is_set_test : Function → Bool
is_set_test (functions.AtLeastOneMemberOf element) = true
is_set_test (functions.Subset element) = true
is_set_test (functions.SetEquals element) = true
is_set_test _ = false

-- a sum of a date and a duration
abbrev pub is_date_sum : Function → Bool
is_date_sum functions.DateAdd = true
is_date_sum functions.DateSubtract = true
is_date_sum _ = false

-- the type of the values that an argument holds, itself or as a bag; a function holds none
abbrev pub held_type : Arg → DataType
held_type (One value) = datatype_of value
held_type (Many bag) = bag.datatype
held_type (Fun function) = data_types.Text

-- an argument's values have its type
abbrev pub IsHeld : Arg → Type 0
IsHeld argument = AllOfType (held_type argument) (values_in argument)

-- each argument holds values of that type
abbrev pub HoldType : DataType → List Arg → Type 0
HoldType datatype arguments = All (λ argument. held_type argument ≡ datatype) arguments

-- the function gives a boolean for these values and one value of the bag among them
abbrev pub IsInner : Function → List Arg → Type 0
IsInner function arguments =
    (length (filter is_bag (map type_of_arg arguments)) ≡ 1)
    × (is_boolean (first_order_type function (map one_of (map type_of_arg arguments))) ≡ true)
