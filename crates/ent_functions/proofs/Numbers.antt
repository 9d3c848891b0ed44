-- Integers within 64 bits.
use Rattle.std.proofs.Common.{◌≡◌, ℕ, suc, ◌<◌, length, get_or, drop, drop-cons, ℤ, pos, negsuc, Bool, true, false, List, [], ◌∷◌, map, refl, ap, sym, subst, ◌∙◌, Option, Some, None}
use Rattle.std.specs.Prelude.{unwrap_or, option_map, ◌&&◌, ◌+ℤ◌, ◌*ℤ◌, unsigned_abs, FitsSigned, SomeIff, Err}
use Rattle.std.specs.Int.{w64}
use Rattle.std.specs.List.{cons_option, list_all}
use Rattle.std.proofs.lemmas.Bool.{ltb-true, lt-ltb}
use Rattle.ent_values.specs.Reading.{is_within_64_bits}
use Rattle.ent_values.specs.declared.value.Value.TheVariants as values
use Rattle.ent_functions.specs.Applied.{first_order}
use Rattle.ent_functions.specs.Arguments.{type_of_arg, integer_in, integers_of}
use Rattle.ent_functions.specs.Integers.{from_left, partial_results, within_64_bits}
use Rattle.ent_functions.specs.proofs_only.Integers.{integer_or, next_result}
use Rattle.ent_functions.specs.proofs_only.Reading.{Takes, is_arithmetic, is_of_two_integers}
use Rattle.ent_functions.specs.Types.{first_order_type, integer}
use Rattle.ent_functions.specs.declared.arg.Arg.{Arg}
use Rattle.ent_functions.specs.declared.arg.Arg.TheVariants.{One}
use Rattle.ent_functions.specs.declared.arg.Fault.TheVariants.{Overflow}
use Rattle.ent_functions.specs.declared.function.Function.{Function}
use Rattle.ent_functions.specs.declared.function.Function.TheVariants as functions
use Rattle.ent_functions.proofs.Taking.{exactly_types}

pub fits : (z : ℤ) → is_within_64_bits z ≡ true → FitsSigned w64 z
fits (pos n) e = record { sfits = ltb-true _ _ e }
fits (negsuc n) e = record { sfits = ltb-true _ _ e }

pub fits_back : (z : ℤ) → FitsSigned w64 z → is_within_64_bits z ≡ true
fits_back (pos n) h = lt-ltb _ _ h.sfits
fits_back (negsuc n) h = lt-ltb _ _ h.sfits

-- what a checked calculation answers
pub checked : (z : ℤ) (answer : Option ℤ) → SomeIff answer (FitsSigned w64 z) z → integer_or Overflow answer ≡ within_64_bits z
checked z None lacks = by_test (is_within_64_bits z) refl where
  by_test : (b : Bool) → is_within_64_bits z ≡ b → integer_or Overflow None ≡ within_64_bits z
  by_test true is = absurd (lacks (fits z is))
  by_test false is = rw is
checked z (Some n) found =
    let is : n ≡ z = found.1 in
    rw (fits_back z found.0, is)

pub add_is : (arguments : List Arg) → first_order functions.Add arguments ≡ from_left ◌+ℤ◌ (pos 0) (integers_of arguments)
unfolding first_order
add_is arguments = refl

pub multiply_is : (arguments : List Arg) → first_order functions.Multiply arguments ≡ from_left ◌*ℤ◌ (pos 1) (integers_of arguments)
unfolding first_order
multiply_is arguments = refl

pub abs_is : (number : ℤ) → first_order functions.Abs (One (values.Integer number) ∷ []) ≡ within_64_bits (pos (unsigned_abs number))
unfolding first_order
abs_is number = refl

pub two_integers_taken : (function : Function) (arguments : List Arg) → is_of_two_integers function ≡ true → Takes function arguments → map type_of_arg arguments ≡ integer ∷ integer ∷ []
unfolding first_order_type
two_integers_taken functions.Subtract arguments kind taken = exactly_types (integer ∷ integer ∷ []) integer (map type_of_arg arguments) refl taken
two_integers_taken functions.Divide arguments kind taken = exactly_types (integer ∷ integer ∷ []) integer (map type_of_arg arguments) refl taken
two_integers_taken functions.Mod arguments kind taken = exactly_types (integer ∷ integer ∷ []) integer (map type_of_arg arguments) refl taken
two_integers_taken _ arguments kind taken = absurd (cc)

pub one_integer_taken : (arguments : List Arg) → Takes functions.Abs arguments → map type_of_arg arguments ≡ integer ∷ []
unfolding first_order_type
one_integer_taken arguments taken = exactly_types (integer ∷ []) integer (map type_of_arg arguments) refl taken

pub arithmetic_of_two : (function : Function) → (function ≡ functions.Add → ⊥) → (function ≡ functions.Multiply → ⊥) → (function ≡ functions.Abs → ⊥) → is_arithmetic function ≡ true → is_of_two_integers function ≡ true
arithmetic_of_two functions.Add add multiply abs kind = absurd (add refl)
arithmetic_of_two functions.Multiply add multiply abs kind = absurd (multiply refl)
arithmetic_of_two functions.Abs add multiply abs kind = absurd (abs refl)
arithmetic_of_two _ add multiply abs kind = kind

-- one number more
pub one_more : (f : ℤ → ℤ → ℤ) (total number : ℤ) (numbers : List ℤ) → is_within_64_bits total ≡ true → from_left f total (number ∷ numbers) ≡ from_left f (f total number) numbers
one_more f total number numbers within = rw within

first_outside : (f : ℤ → ℤ → ℤ) (total : ℤ) (numbers : List ℤ) → is_within_64_bits total ≡ false → list_all is_within_64_bits (partial_results f total numbers) ≡ false
first_outside f total [] outside = rw outside
first_outside f total (number ∷ numbers) outside = rw outside

and_false : (a b : Bool) → b ≡ false → (a && b) ≡ false
and_false true b is = is
and_false false b is = refl

-- one number too many
pub one_too_many : (f : ℤ → ℤ → ℤ) (total number : ℤ) (numbers : List ℤ) → is_within_64_bits (f total number) ≡ false → from_left f total (number ∷ numbers) ≡ Err Overflow
one_too_many f total number numbers outside =
    rw (and_false (is_within_64_bits total) (list_all is_within_64_bits (partial_results f (f total number) numbers)) (first_outside f (f total number) numbers outside))

pub outside : (z : ℤ) → (FitsSigned w64 z → ⊥) → is_within_64_bits z ≡ false
outside z lacks = by_test (is_within_64_bits z) refl where
  by_test : (b : Bool) → is_within_64_bits z ≡ b → is_within_64_bits z ≡ false
  by_test true is = absurd (lacks (fits z is))
  by_test false is = is

-- the result that is outside 64 bits stops the walk over the arguments
pub stops : (f : ℤ → ℤ → ℤ) (first total : ℤ) (arguments : List Arg) (i : ℕ) (argument : Arg)
    → i < length arguments → argument ≡ get_or arguments i argument → is_within_64_bits total ≡ true
    → from_left f total (integers_of (drop i arguments)) ≡ from_left f first (integers_of arguments)
    → (FitsSigned w64 (next_result f total argument) → ⊥) → Err Overflow ≡ from_left f first (integers_of arguments)
stops f first total arguments i argument below at within left lacks = by_case (integer_in argument) refl where
  here : drop i arguments ≡ argument ∷ drop (suc i) arguments
  here = drop-cons arguments i argument below ∙ ap (λ a. a ∷ drop (suc i) arguments) (sym at)

  by_case : (o : Option ℤ) → integer_in argument ≡ o → Err Overflow ≡ from_left f first (integers_of arguments)
  by_case None is = absurd (lacks (rw is (fits total within)))
  by_case (Some number) is =
      let there : integers_of (drop i arguments) ≡ number ∷ integers_of (drop (suc i) arguments) =
      ap integers_of here ∙ ap (λ n. cons_option n (integers_of (drop (suc i) arguments))) is in
      let next : next_result f total argument ≡ f total number = ap (λ o. unwrap_or (option_map (λ number. f total number) o) total) is in
      let beyond : FitsSigned w64 (f total number) → ⊥ = λ fit. lacks (subst (λ z. FitsSigned w64 z) (sym next) fit) in
      sym (one_too_many f total number (integers_of (drop (suc i) arguments)) (outside (f total number) beyond))
      ∙ ap (λ numbers. from_left f total numbers) (sym there) ∙ left

-- what the functions of integers come to
pub ruleset calculations = (add_is, multiply_is, abs_is, one_integer_taken)
