-- What the functions of bags and of dates are known to take.
use Rattle.std.proofs.Common.{◌≡◌, Bool, true, false, List, [], ◌∷◌, map, refl}
use Rattle.ent_values.specs.declared.datatype.DataType.{DataType}
use Rattle.ent_functions.specs.Arguments.{type_of_arg}
use Rattle.ent_functions.specs.proofs_only.Reading.{AreOneBag, AreTwoBags, AreValueAndBag, HoldType, Takes, is_date_sum, is_set_test}
use Rattle.ent_functions.specs.Types.{bag_of, boolean, date, duration, element_type, first_order_type, integer, value_of}
use Rattle.ent_functions.specs.declared.arg.Arg.{Arg}
use Rattle.ent_functions.specs.declared.arg.Arg.TheVariants.{One, Many, Fun}
use Rattle.ent_functions.specs.declared.function.Element.{Element}
use Rattle.ent_functions.specs.declared.function.Function.{Function}
use Rattle.ent_functions.specs.declared.function.Function.TheVariants as functions
use Rattle.ent_functions.specs.declared.types.ArgType.TheVariants as types
use Rattle.ent_functions.proofs.Held.{bags_hold, values_hold}
use Rattle.ent_functions.proofs.Taking.{each_types, exactly_types, two_or_more_types}

one_bag_of : (t : DataType) (arguments : List Arg) → map type_of_arg arguments ≡ types.Many t ∷ [] → AreOneBag arguments
one_bag_of t [] is = absurd (cc)
one_bag_of t (One v ∷ rest) is = absurd (cc)
one_bag_of t (Fun v ∷ rest) is = absurd (cc)
one_bag_of t (Many b ∷ []) is = (b, refl)
one_bag_of t (Many b ∷ x ∷ rest) is = absurd (cc)

value_and_bag_of : (s t : DataType) (arguments : List Arg) → map type_of_arg arguments ≡ types.One s ∷ types.Many t ∷ [] → AreValueAndBag arguments
value_and_bag_of s t [] is = absurd (cc)
value_and_bag_of s t (Many v ∷ rest) is = absurd (cc)
value_and_bag_of s t (Fun v ∷ rest) is = absurd (cc)
value_and_bag_of s t (One v ∷ []) is = absurd (cc)
value_and_bag_of s t (One v ∷ One w ∷ rest) is = absurd (cc)
value_and_bag_of s t (One v ∷ Fun w ∷ rest) is = absurd (cc)
value_and_bag_of s t (One v ∷ Many b ∷ []) is = (v, b, refl)
value_and_bag_of s t (One v ∷ Many b ∷ x ∷ rest) is = absurd (cc)

pub two_bags_of : (s t : DataType) (arguments : List Arg) → map type_of_arg arguments ≡ types.Many s ∷ types.Many t ∷ [] → AreTwoBags arguments
two_bags_of s t [] is = absurd (cc)
two_bags_of s t (One v ∷ rest) is = absurd (cc)
two_bags_of s t (Fun v ∷ rest) is = absurd (cc)
two_bags_of s t (Many v ∷ []) is = absurd (cc)
two_bags_of s t (Many v ∷ One w ∷ rest) is = absurd (cc)
two_bags_of s t (Many v ∷ Fun w ∷ rest) is = absurd (cc)
two_bags_of s t (Many a ∷ Many b ∷ []) is = (a, b, refl)
two_bags_of s t (Many a ∷ Many b ∷ x ∷ rest) is = absurd (cc)

abbrev pub takes_one_bag : Function → Bool
takes_one_bag (functions.OneAndOnly element) = true
takes_one_bag (functions.BagSize element) = true
takes_one_bag _ = false

pub one_bag_taken : (function : Function) (arguments : List Arg) → takes_one_bag function ≡ true → Takes function arguments → AreOneBag arguments
unfolding first_order_type
one_bag_taken (functions.OneAndOnly e) arguments kind taken =
    one_bag_of (element_type e) arguments (exactly_types (bag_of e ∷ []) (value_of e) (map type_of_arg arguments) refl taken)
one_bag_taken (functions.BagSize e) arguments kind taken =
    one_bag_of (element_type e) arguments (exactly_types (bag_of e ∷ []) integer (map type_of_arg arguments) refl taken)
one_bag_taken _ arguments kind taken = absurd (cc)

pub value_and_bag_taken : (e : Element) (arguments : List Arg) → Takes (functions.IsIn e) arguments → AreValueAndBag arguments
unfolding first_order_type
value_and_bag_taken e arguments taken =
    value_and_bag_of (element_type e) (element_type e) arguments (exactly_types (value_of e ∷ bag_of e ∷ []) boolean (map type_of_arg arguments) refl taken)

pub bag_taken : (e : Element) (arguments : List Arg) → Takes (functions.Bag e) arguments → HoldType (element_type e) arguments
unfolding first_order_type
bag_taken e arguments taken =
    values_hold (element_type e) arguments (each_types (value_of e) (bag_of e) (map type_of_arg arguments) refl taken)

pub union_taken : (e : Element) (arguments : List Arg) → Takes (functions.Union e) arguments → HoldType (element_type e) arguments
unfolding first_order_type
union_taken e arguments taken =
    bags_hold (element_type e) arguments (two_or_more_types (bag_of e) (bag_of e) (map type_of_arg arguments) refl taken)

pub intersection_taken : (e : Element) (arguments : List Arg) → Takes (functions.Intersection e) arguments → map type_of_arg arguments ≡ bag_of e ∷ bag_of e ∷ []
unfolding first_order_type
intersection_taken e arguments taken = exactly_types (bag_of e ∷ bag_of e ∷ []) (bag_of e) (map type_of_arg arguments) refl taken

pub two_bags_taken : (function : Function) (arguments : List Arg) → is_set_test function ≡ true → Takes function arguments → AreTwoBags arguments
unfolding first_order_type
two_bags_taken (functions.AtLeastOneMemberOf e) arguments kind taken =
    two_bags_of (element_type e) (element_type e) arguments (exactly_types (bag_of e ∷ bag_of e ∷ []) boolean (map type_of_arg arguments) refl taken)
two_bags_taken (functions.Subset e) arguments kind taken =
    two_bags_of (element_type e) (element_type e) arguments (exactly_types (bag_of e ∷ bag_of e ∷ []) boolean (map type_of_arg arguments) refl taken)
two_bags_taken (functions.SetEquals e) arguments kind taken =
    two_bags_of (element_type e) (element_type e) arguments (exactly_types (bag_of e ∷ bag_of e ∷ []) boolean (map type_of_arg arguments) refl taken)
two_bags_taken _ arguments kind taken = absurd (cc)

pub date_sum_taken : (function : Function) (arguments : List Arg) → is_date_sum function ≡ true → Takes function arguments → map type_of_arg arguments ≡ date ∷ duration ∷ []
unfolding first_order_type
date_sum_taken functions.DateAdd arguments kind taken = exactly_types (date ∷ duration ∷ []) date (map type_of_arg arguments) refl taken
date_sum_taken functions.DateSubtract arguments kind taken = exactly_types (date ∷ duration ∷ []) date (map type_of_arg arguments) refl taken
date_sum_taken _ arguments kind taken = absurd (cc)

abbrev pub takes_function : Function → Bool
takes_function functions.AnyOf = true
takes_function functions.AllOf = true
takes_function _ = false

pub not_higher : (function : Function) (arguments : List Arg) → takes_function function ≡ true → Takes function arguments → ⊥
unfolding first_order_type
not_higher functions.AnyOf arguments kind taken = cc
not_higher functions.AllOf arguments kind taken = cc
not_higher _ arguments kind taken = cc

-- what the functions of a bag take
pub ruleset of_bags = (one_bag_taken, value_and_bag_taken)

-- what the functions that make a bag take
pub ruleset making_bags = (bag_taken, union_taken, intersection_taken)
