-- The limits that the command line gives.
use Rattle.std.specs.Prelude.{◌≡◌, ℕ, List, Option, Some, None, codes, min}
use Rattle.std.specs.Str.Parse.{IsNumeral, digits_value, without_leading_plus}
use Rattle.clap.specs.Walk.{Row, first_of}
use Rattle.ent_table.specs.Limits.{standard_limits}
use Rattle.ent_table.specs.declared.limits.Limits.{Limits}
use Rattle.cli_words.specs.Options.{IsUpTo}
use Rattle.cli_words.specs.declared.words.WrongLimit.{WrongLimit}

-- a word writes a limit: a number from 1 to a greatest one, in decimal digits
abbrev pub WritesLimit : ℕ → List ℕ → ℕ → Type 0
WritesLimit greatest word limit = let digits = without_leading_plus word in
    IsNumeral 10 digits × IsUpTo greatest limit × (limit ≡ digits_value 10 digits)

-- a word writes none
abbrev pub WritesNone : ℕ → List ℕ → Type 0
WritesNone greatest word = (limit : ℕ) → WritesLimit greatest word limit → ⊥

-- a limit is what an option writes, or the standard one where it isn't given
abbrev pub IsLimit : (standard greatest : ℕ) → Option (List ℕ) → ℕ → Type 0
IsLimit standard greatest None limit = limit ≡ standard
IsLimit standard greatest (Some word) limit = WritesLimit greatest word limit

-- each limit is what its option says
pub record AreLimits (options : List Row) (limits : Limits) : Type 0 where
  pub people : IsLimit 256 65536 (first_of (codes "people") options) limits.people
  pub actions : IsLimit 32 1024 (first_of (codes "actions") options) limits.actions
  pub resources : IsLimit 256 65536 (first_of (codes "resources") options) limits.resources
  pub cells : IsLimit 65536 16777216 (first_of (codes "cells") options) limits.cells
  pub documents : IsLimit 1024 65536 (first_of (codes "documents") options) limits.documents

-- an option is given, and writes no limit
pub record IsWrong (options : List Row) (wrong : WrongLimit) : Type 0 where
  pub given : first_of wrong.option.now options ≡ Some wrong.word.now
  pub none : WritesNone wrong.greatest wrong.word.now

-- the limits of the subcommand that was found
abbrev pub AreLimitsOf : Option (List ℕ × List Row) → Limits → Type 0
AreLimitsOf None limits = limits ≡ standard_limits
AreLimitsOf (Some (name, options)) limits = AreLimits options limits

-- an option of it writes no limit
abbrev pub IsWrongOf : Option (List ℕ × List Row) → WrongLimit → Type 0
IsWrongOf None wrong = ⊥
IsWrongOf (Some (name, options)) wrong = IsWrong options wrong

-- those limits, each at most the greatest that a review takes
abbrev pub bounded : Limits → Limits
bounded limits = record {
  people = min limits.people 65536;
  actions = min limits.actions 1024;
  resources = min limits.resources 65536;
  cells = min limits.cells 16777216;
  documents = min limits.documents 65536;
}
