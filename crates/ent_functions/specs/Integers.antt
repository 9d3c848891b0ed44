-- Functions of integers (appendix A.3.2): the numbers have no bounds, and then it is asked whether the result is within 64 bits.
use Rattle.std.specs.Prelude.{ℤ, Bool, int_div, int_rem, unsigned_abs, ◌==◌, List, [], ◌∷◌, Result, Err, if◌then◌else◌}
use Rattle.std.specs.List.{list_all}
use Rattle.ent_values.specs.Reading.{is_within_64_bits}
use Rattle.ent_functions.specs.Arguments.{integer}
use Rattle.ent_functions.specs.declared.arg.Arg.{Arg}
use Rattle.ent_functions.specs.declared.arg.Fault.{Fault}
use Rattle.ent_functions.specs.declared.arg.Fault.TheVariants.{DivideByZero, Overflow}

-- the integer, or Overflow outside 64 bits
abbrev pub within_64_bits : ℤ → Result Arg Fault
within_64_bits number = if is_within_64_bits number then integer number else Err Overflow

-- the results of combining numbers from left to right, each with the one before, from a first one on
abbrev pub partial_results : (ℤ → ℤ → ℤ) → ℤ → List ℤ → List ℤ
partial_results f first [] = first ∷ []
partial_results f first (number ∷ numbers) = first ∷ partial_results f (f first number) numbers

-- the last of them
abbrev pub whole_result : (ℤ → ℤ → ℤ) → ℤ → List ℤ → ℤ
whole_result f first [] = first
whole_result f first (number ∷ numbers) = whole_result f (f first number) numbers

-- the numbers combined from left to right, or Overflow if one of the results on the way is outside 64 bits
abbrev pub from_left : (ℤ → ℤ → ℤ) → ℤ → List ℤ → Result Arg Fault
from_left f first numbers =
    if list_all is_within_64_bits (partial_results f first numbers) then integer (whole_result f first numbers) else Err Overflow

abbrev pub is_zero : ℤ → Bool
is_zero number = unsigned_abs number == 0

-- the quotient, cut toward zero
abbrev pub quotient : ℤ → ℤ → Result Arg Fault
quotient dividend divisor = if is_zero divisor then Err DivideByZero else within_64_bits (int_div dividend divisor)

-- what is left of the dividend after the quotient cut toward zero, with the dividend's sign
abbrev pub remainder : ℤ → ℤ → Result Arg Fault
remainder dividend divisor = if is_zero divisor then Err DivideByZero else integer (int_rem dividend divisor)
