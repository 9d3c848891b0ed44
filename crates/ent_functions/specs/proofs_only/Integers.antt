-- Integers, one argument after the other: words of the code's own contracts.
use Rattle.std.specs.Prelude.{ℤ, unwrap_or, option_map, Option, Some, None, Result, Err}
use Rattle.ent_functions.specs.Arguments.{integer, integer_in}
use Rattle.ent_functions.specs.declared.arg.Arg.{Arg}
use Rattle.ent_functions.specs.declared.arg.Fault.{Fault}

-- an integer as a result, or that fault where there is none
abbrev pub integer_or : Fault → Option ℤ → Result Arg Fault
integer_or fault (Some number) = integer number
integer_or fault None = Err fault

-- the next of them, with the integer that an argument is
abbrev pub next_result : (ℤ → ℤ → ℤ) → ℤ → Arg → ℤ
next_result f total argument = unwrap_or (option_map (λ number. f total number) (integer_in argument)) total
