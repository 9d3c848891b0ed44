-- How a comparison ends.
use Rattle.std.specs.Prelude.{◌≡◌, Result, Err}
use Rattle.cli_words.specs.declared.asked_states.AskedStates.{AskedStates}
use Rattle.cli_compare.specs.declared.differing.Ending.{Ending}
use Rattle.cli_words.specs.declared.status.Unmet.{Unmet}
use Rattle.cli_words.specs.declared.status.Unmet.TheVariants.{Refused}
use Rattle.cli_words.specs.Options.{NameInputTwice}

-- a comparison of these states: for such words alone it is refused
abbrev pub IsOfStates : AskedStates → Result Ending Unmet → Type 0
IsOfStates states compared = compared ≡ Err Refused → NameInputTwice states
