-- The function under any-of and all-of, and its arguments.
use Rattle.std.proofs.Common.{◌≡◌, ℕ, zero, suc, ◌<◌, Bool, true, false, List, [], ◌∷◌, map, length, get_or, refl, ap, sym, subst, ◌∙◌, arith}
use Rattle.std.specs.Prelude.{All, Option, Some, None, IsSome, filter, count_by, ◌&&◌, ◌==◌, nat_le, if◌then◌else◌}
use Rattle.std.specs.Cmp.Lexicographic.{pointwise}
use Rattle.std.specs.List.{list_all}
use Rattle.std.proofs.lemmas.List.Elements.{All-nil}
use Rattle.std.proofs.lemmas.Bool.{eqb-true}
use Rattle.std.proofs.lemmas.List.Sums.{length-filter}
use Rattle.ent_values.specs.Bags.{Contents}
use Rattle.ent_values.specs.Types.{datatype_of}
use Rattle.ent_values.specs.declared.value.Value.{Value}
use Rattle.ent_functions.specs.Arguments.{type_of_arg}
use Rattle.ent_functions.specs.Higher.{bag_values_in, with_value}
use Rattle.ent_functions.specs.proofs_only.Reading.{IsInner, Takes, held_type, is_test}
use Rattle.ent_functions.specs.Types.{bag_of, boolean, date, duration, each, exactly, first_order_type, higher_order_type, integer, is_bag, is_boolean, one_of, same_type, text, two_or_more, value_of}
use Rattle.ent_functions.specs.declared.arg.Arg.{Arg}
use Rattle.ent_functions.specs.declared.arg.Arg.TheVariants.{One, Many, Fun}
use Rattle.ent_functions.specs.declared.function.Element.{Element}
use Rattle.ent_functions.specs.declared.function.Function.{Function}
use Rattle.ent_functions.specs.declared.function.Function.TheVariants as functions
use Rattle.ent_functions.specs.declared.types.ArgType.{ArgType}
use Rattle.ent_functions.specs.declared.types.ArgType.TheVariants as types
use Rattle.ent_functions.proofs.Taking.{exactly_types}

abbrev bags : List Arg → ℕ
bags arguments = length (filter is_bag (map type_of_arg arguments))

last_taken : (n : ℕ) → suc n ≡ 1 → n ≡ 0
last_taken n is = omega arith

some_there : (n : ℕ) → suc n ≡ 0 → ⊥
some_there n is = omega arith

lower : (i n : ℕ) → suc i < suc n → i < n
lower i n below = omega arith

not_below : (i : ℕ) → i < 0 → ⊥
not_below i below = omega arith

-- no bag: with a value in its place nothing changes
no_bag : (value : Value) (arguments : List Arg) → bags arguments ≡ 0
    → map type_of_arg (with_value value arguments) ≡ map one_of (map type_of_arg arguments)
no_bag value [] none = refl
no_bag value (One v ∷ arguments) none = ap (λ rest. types.One (datatype_of v) ∷ rest) (no_bag value arguments none)
no_bag value (Fun f ∷ arguments) none = ap (λ rest. types.Fun f ∷ rest) (no_bag value arguments none)
no_bag value (Many b ∷ arguments) none = absurd (some_there (bags arguments) none)

one_at_most : (arguments : List Arg) (i : ℕ) (bag : Contents) → bags arguments ≡ 0 → i < length arguments → Many bag ≡ get_or arguments i (Many bag) → ⊥
one_at_most [] i bag none below at = not_below i below
one_at_most (One v ∷ arguments) zero bag none below at = cc
one_at_most (One v ∷ arguments) (suc i) bag none below at =
    one_at_most arguments i bag none (lower i (length arguments) below) at
one_at_most (Fun v ∷ arguments) zero bag none below at = cc
one_at_most (Fun v ∷ arguments) (suc i) bag none below at =
    one_at_most arguments i bag none (lower i (length arguments) below) at
one_at_most (Many v ∷ arguments) i bag none below at = some_there (bags arguments) none

-- one bag: with one of its values in its place the types are those that the function was asked about
one_bag : (value : Value) (arguments : List Arg) (i : ℕ) (bag : Contents) → bags arguments ≡ 1
    → i < length arguments → Many bag ≡ get_or arguments i (Many bag) → datatype_of value ≡ bag.datatype
    → map type_of_arg (with_value value arguments) ≡ map one_of (map type_of_arg arguments)
one_bag value [] i bag one below at type = absurd (not_below i below)
one_bag value (One v ∷ arguments) zero bag one below at type = absurd (cc)
one_bag value (One v ∷ arguments) (suc i) bag one below at type =
    ap (λ rest. types.One (datatype_of v) ∷ rest)
    (one_bag value arguments i bag one (lower i (length arguments) below) at type)
one_bag value (Fun f ∷ arguments) zero bag one below at type = absurd (cc)
one_bag value (Fun f ∷ arguments) (suc i) bag one below at type =
    ap (λ rest. types.Fun f ∷ rest)
    (one_bag value arguments i bag one (lower i (length arguments) below) at type)
one_bag value (Many b ∷ arguments) zero bag one below at type =
    let same : bag.datatype ≡ b.datatype = cc in
    ap (λ t. types.One t ∷ map type_of_arg (with_value value arguments)) (type ∙ same)
    ∙ ap (λ rest. types.One b.datatype ∷ rest) (no_bag value arguments (last_taken (bags arguments) one))
one_bag value (Many b ∷ arguments) (suc i) bag one below at type =
    absurd (one_at_most arguments i bag (last_taken (bags arguments) one) (lower i (length arguments) below) at)

some_boolean : (type : Option ArgType) → is_boolean type ≡ true → IsSome type
some_boolean None is = absurd (cc)
some_boolean (Some type) is = refl

-- the function takes the arguments with one of the bag's values in the bag's place
pub inner_taken : (function : Function) (arguments : List Arg) (i : ℕ) (argument : Arg) → IsInner function arguments
    → i < length arguments → argument ≡ get_or arguments i argument
    → All (λ value. datatype_of value ≡ held_type argument) (bag_values_in argument)
    → All (λ value. Takes function (with_value value arguments)) (bag_values_in argument)
inner_taken function arguments i (One v) inner below at all = All-nil (λ value. Takes function (with_value value arguments))
inner_taken function arguments i (Fun f) inner below at all = All-nil (λ value. Takes function (with_value value arguments))
inner_taken function arguments i (Many bag) inner below at all = λ k d within.
    let value : Value = get_or bag.values k d in
    let types = one_bag value arguments i bag inner.0 below at (all k d within) in
    subst (λ (given : List ArgType). IsSome (first_order_type function given)) (sym types)
    (some_boolean (first_order_type function (map one_of (map type_of_arg arguments))) inner.1)

not_if : (b : Bool) (type : ArgType) → same_type type boolean ≡ false → is_boolean (if b then Some type else None) ≡ true → ⊥
not_if true type differs is = cc
not_if false type differs is = cc

not_two_or_more : (wanted type : ArgType) (given : List ArgType) → same_type type boolean ≡ false → is_boolean (two_or_more wanted type given) ≡ true → ⊥
not_two_or_more wanted type given differs is = at (nat_le 2 (length given)) is where
  at : (b : Bool) → is_boolean (if b then each wanted type given else None) ≡ true → ⊥
  at true is = not_if (list_all (λ t. same_type t wanted) given) type differs is
  at false is = cc

not_exactly : (wanted : List ArgType) (type : ArgType) (given : List ArgType) → same_type type boolean ≡ false → is_boolean (exactly wanted type given) ≡ true → ⊥
not_exactly wanted type given differs is = not_if (pointwise same_type given wanted) type differs is

-- no bag stands among the types with one of each bag in its place
no_bag_first : (e : Element) (type : ArgType) (given : List ArgType) → is_boolean (exactly (bag_of e ∷ []) type (map one_of given)) ≡ true → ⊥
no_bag_first e type given is =
    at given (exactly_types (bag_of e ∷ []) type (map one_of given) refl (some_boolean (exactly (bag_of e ∷ []) type (map one_of given)) is)) where
      at : (given : List ArgType) → map one_of given ≡ bag_of e ∷ [] → ⊥
      at [] is = cc
      at (types.One t ∷ given) is = cc
      at (types.Many t ∷ given) is = cc
      at (types.Fun t ∷ given) is = cc

no_two_bags : (e : Element) (type : ArgType) (given : List ArgType) → is_boolean (exactly (bag_of e ∷ bag_of e ∷ []) type (map one_of given)) ≡ true → ⊥
no_two_bags e type given is =
    at given (exactly_types (bag_of e ∷ bag_of e ∷ []) type (map one_of given) refl (some_boolean (exactly (bag_of e ∷ bag_of e ∷ []) type (map one_of given)) is)) where
      at : (given : List ArgType) → map one_of given ≡ bag_of e ∷ bag_of e ∷ [] → ⊥
      at [] is = cc
      at (types.One t ∷ given) is = cc
      at (types.Many t ∷ given) is = cc
      at (types.Fun t ∷ given) is = cc

no_bag_second : (e : Element) (type : ArgType) (given : List ArgType) → is_boolean (exactly (value_of e ∷ bag_of e ∷ []) type (map one_of given)) ≡ true → ⊥
no_bag_second e type given is =
    at given (exactly_types (value_of e ∷ bag_of e ∷ []) type (map one_of given) refl (some_boolean (exactly (value_of e ∷ bag_of e ∷ []) type (map one_of given)) is)) where
      at : (given : List ArgType) → map one_of given ≡ value_of e ∷ bag_of e ∷ [] → ⊥
      at [] is = cc
      at (t ∷ []) is = cc
      at (t ∷ types.One u ∷ given) is = cc
      at (t ∷ types.Many u ∷ given) is = cc
      at (t ∷ types.Fun u ∷ given) is = cc

-- a function that gives a boolean for values is one of the tests
pub test_by_type : (function : Function) (given : List ArgType) → is_boolean (first_order_type function (map one_of given)) ≡ true → is_test function ≡ true
unfolding first_order_type
test_by_type (functions.Equal e) given is = refl
test_by_type (functions.Compare k o) given is = refl
test_by_type functions.Or given is = refl
test_by_type functions.And given is = refl
test_by_type functions.Not given is = refl
test_by_type functions.StartsWith given is = refl
test_by_type functions.EndsWith given is = refl
test_by_type functions.Contains given is = refl
test_by_type functions.Add given is = absurd (not_two_or_more integer integer (map one_of given) refl is)
test_by_type functions.Multiply given is = absurd (not_two_or_more integer integer (map one_of given) refl is)
test_by_type functions.Subtract given is = absurd (not_exactly (integer ∷ integer ∷ []) integer (map one_of given) refl is)
test_by_type functions.Divide given is = absurd (not_exactly (integer ∷ integer ∷ []) integer (map one_of given) refl is)
test_by_type functions.Mod given is = absurd (not_exactly (integer ∷ integer ∷ []) integer (map one_of given) refl is)
test_by_type functions.Abs given is = absurd (not_exactly (integer ∷ []) integer (map one_of given) refl is)
test_by_type (functions.OneAndOnly e) given is = absurd (no_bag_first e (value_of e) given is)
test_by_type (functions.BagSize e) given is = absurd (no_bag_first e integer given is)
test_by_type (functions.IsIn e) given is = absurd (no_bag_second e boolean given is)
test_by_type (functions.Bag e) given is = absurd (not_if (list_all (λ t. same_type t (value_of e)) (map one_of given)) (bag_of e) refl is)
test_by_type (functions.Intersection e) given is = absurd (no_two_bags e (bag_of e) given is)
test_by_type (functions.Union e) given is = absurd (not_two_or_more (bag_of e) (bag_of e) (map one_of given) refl is)
test_by_type (functions.AtLeastOneMemberOf e) given is = absurd (no_two_bags e boolean given is)
test_by_type (functions.Subset e) given is = absurd (no_two_bags e boolean given is)
test_by_type (functions.SetEquals e) given is = absurd (no_two_bags e boolean given is)
test_by_type functions.Concatenate given is = absurd (not_two_or_more text text (map one_of given) refl is)
test_by_type functions.DateAdd given is = absurd (not_exactly (date ∷ duration ∷ []) date (map one_of given) refl is)
test_by_type functions.DateSubtract given is = absurd (not_exactly (date ∷ duration ∷ []) date (map one_of given) refl is)
test_by_type functions.AnyOf given is = absurd (cc)
test_by_type functions.AllOf given is = absurd (cc)

both_some : {A : Type 0} (a b : Bool) (x : A) → IsSome (if a && b then Some x else None) → (a ≡ true) × (b ≡ true)
both_some true true x some = (refl, refl)
both_some true false x some = absurd (cc)
both_some false b x some = absurd (cc)

-- the function first and the other arguments of any-of or all-of
pub inner_of : (function : Function) (rest arguments : List Arg) → arguments ≡ Fun function ∷ rest → IsSome (higher_order_type (map type_of_arg arguments)) → IsInner function rest
unfolding higher_order_type
inner_of function rest arguments is some =
    let taken : IsSome (higher_order_type (map type_of_arg (Fun function ∷ rest))) = subst (λ (xs : List Arg). IsSome (higher_order_type (map type_of_arg xs))) is some in
    let tests = both_some (count_by is_bag (map type_of_arg rest) == 1) (is_boolean (first_order_type function (map one_of (map type_of_arg rest)))) boolean taken in
    (length-filter is_bag (map type_of_arg rest) ∙ eqb-true (count_by is_bag (map type_of_arg rest)) 1 tests.0, tests.1)
