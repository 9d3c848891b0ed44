-- The type of each function's result (appendix A.3).
use Rattle.std.specs.Prelude.{Bool, true, false, ◌&&◌, ◌==◌, nat_le, List, [], ◌∷◌, length, map, count_by, Option, Some, None, if◌then◌else◌}
use Rattle.std.specs.List.{list_all}
use Rattle.std.specs.Cmp.Lexicographic.{pointwise}
use Rattle.ent_values.specs.declared.datatype.DataType.{DataType}
use Rattle.ent_values.specs.declared.datatype.DataType.TheVariants as data_types
use Rattle.ent_functions.specs.contracts.types.ArgTypePartialEq.TheImpl as comparison
use Rattle.ent_functions.specs.declared.function.Element.{Element}
use Rattle.ent_functions.specs.declared.function.Element.TheVariants as elements
use Rattle.ent_functions.specs.declared.function.Ordered.{Ordered}
use Rattle.ent_functions.specs.declared.function.Ordered.TheVariants as ordered
use Rattle.ent_functions.specs.declared.function.Function.{Function}
use Rattle.ent_functions.specs.declared.function.Function.TheVariants as functions
use Rattle.ent_functions.specs.declared.types.ArgType.{ArgType}
use Rattle.ent_functions.specs.declared.types.ArgType.TheVariants.{One, Many, Fun}

-- the data type of an element
abbrev pub element_type : Element → DataType
element_type elements.Text = data_types.Text
element_type elements.Boolean = data_types.Boolean
element_type elements.Integer = data_types.Integer
element_type elements.Date = data_types.Date
element_type elements.AnyUri = data_types.AnyUri
element_type elements.Time = data_types.Time
element_type elements.DateTime = data_types.DateTime

-- the data type of a type with an order
abbrev pub ordered_type : Ordered → DataType
ordered_type ordered.Integer = data_types.Integer
ordered_type ordered.Text = data_types.Text
ordered_type ordered.Date = data_types.Date
ordered_type ordered.Time = data_types.Time
ordered_type ordered.DateTime = data_types.DateTime

-- what `==` of two types answers
abbrev pub same_type : ArgType → ArgType → Bool
same_type = (comparison.ghosts).eq

-- that result type, if the arguments have exactly those types
abbrev pub exactly : List ArgType → ArgType → List ArgType → Option ArgType
exactly wanted outcome given = if pointwise same_type given wanted then Some outcome else None

-- that result type, if each argument has that type
abbrev pub each : ArgType → ArgType → List ArgType → Option ArgType
each wanted outcome given = if list_all (λ type. same_type type wanted) given then Some outcome else None

-- that result type, if each of two arguments or more has that type
abbrev pub two_or_more : ArgType → ArgType → List ArgType → Option ArgType
two_or_more wanted outcome given = if nat_le 2 (length given) then each wanted outcome given else None

abbrev pub boolean : ArgType
boolean = One data_types.Boolean

abbrev pub integer : ArgType
integer = One data_types.Integer

abbrev pub text : ArgType
text = One data_types.Text

abbrev pub date : ArgType
date = One data_types.Date

abbrev pub duration : ArgType
duration = One data_types.YearMonth

abbrev pub value_of : Element → ArgType
value_of element = One (element_type element)

abbrev pub bag_of : Element → ArgType
bag_of element = Many (element_type element)

-- the result type of a function that takes no function
unfoldable pub first_order_type : Function → List ArgType → Option ArgType
first_order_type (functions.Equal e) = exactly (value_of e ∷ value_of e ∷ []) boolean
first_order_type (functions.Compare c o) = exactly (One (ordered_type o) ∷ One (ordered_type o) ∷ []) boolean
first_order_type functions.Add = two_or_more integer integer
first_order_type functions.Subtract = exactly (integer ∷ integer ∷ []) integer
first_order_type functions.Multiply = two_or_more integer integer
first_order_type functions.Divide = exactly (integer ∷ integer ∷ []) integer
first_order_type functions.Mod = exactly (integer ∷ integer ∷ []) integer
first_order_type functions.Abs = exactly (integer ∷ []) integer
first_order_type functions.Or = each boolean boolean
first_order_type functions.And = each boolean boolean
first_order_type functions.Not = exactly (boolean ∷ []) boolean
first_order_type (functions.OneAndOnly e) = exactly (bag_of e ∷ []) (value_of e)
first_order_type (functions.BagSize e) = exactly (bag_of e ∷ []) integer
first_order_type (functions.IsIn e) = exactly (value_of e ∷ bag_of e ∷ []) boolean
first_order_type (functions.Bag e) = each (value_of e) (bag_of e)
first_order_type (functions.Intersection e) = exactly (bag_of e ∷ bag_of e ∷ []) (bag_of e)
first_order_type (functions.Union e) = two_or_more (bag_of e) (bag_of e)
first_order_type (functions.AtLeastOneMemberOf e) = exactly (bag_of e ∷ bag_of e ∷ []) boolean
first_order_type (functions.Subset e) = exactly (bag_of e ∷ bag_of e ∷ []) boolean
first_order_type (functions.SetEquals e) = exactly (bag_of e ∷ bag_of e ∷ []) boolean
first_order_type functions.Concatenate = two_or_more text text
first_order_type functions.StartsWith = exactly (text ∷ text ∷ []) boolean
first_order_type functions.EndsWith = exactly (text ∷ text ∷ []) boolean
first_order_type functions.Contains = exactly (text ∷ text ∷ []) boolean
first_order_type functions.DateAdd = exactly (date ∷ duration ∷ []) date
first_order_type functions.DateSubtract = exactly (date ∷ duration ∷ []) date
first_order_type functions.AnyOf = λ given. None
first_order_type functions.AllOf = λ given. None

-- the argument is a bag
abbrev pub is_bag : ArgType → Bool
is_bag (Many type) = true
is_bag _ = false

-- the type of one value of a bag in the bag's place
abbrev pub one_of : ArgType → ArgType
one_of (Many type) = One type
one_of given = given

-- it is the type of one boolean
abbrev pub is_boolean : Option ArgType → Bool
is_boolean (Some type) = same_type type boolean
is_boolean None = false

-- any-of and all-of take a function, and then values and exactly one bag: with one value in the bag's place the function,
-- which takes none itself, gives a boolean
unfoldable pub higher_order_type : List ArgType → Option ArgType
higher_order_type (Fun function ∷ given) =
    if (count_by is_bag given == 1) && is_boolean (first_order_type function (map one_of given)) then Some boolean else None
higher_order_type _ = None

-- the type of a function's result for arguments of these types, if the function takes such arguments
unfoldable pub result_type_of : Function → List ArgType → Option ArgType
result_type_of functions.AnyOf = higher_order_type
result_type_of functions.AllOf = higher_order_type
result_type_of function = first_order_type function
