-- Lines that only ask.
use Rattle.std.specs.Prelude.{ℕ, Bool, true, false, List, Option, option_and_then}
use Rattle.std.specs.Option.{option_map_or}
use Rattle.ent_command.specs.Asked as asked
use Rattle.ent_command.specs.Asked.{Command, command_in}
use Rattle.std.specs.Result.{result_ok}
use Rattle.ent_json.specs.Line.{data_of}

-- the session and the command of a line that has them
abbrev pub asked_by : List ℕ → Option (ℕ × Command)
asked_by line = option_and_then (λ d. result_ok (command_in d)) (data_of line)

-- a command only asks: it is a question, and another one than how many evaluations there were
abbrev pub is_asking : Command → Bool
is_asking (asked.question asked.work) = false
is_asking (asked.question other) = true
is_asking other = false

-- a line only asks, or it asks for no command
abbrev pub only_asks : List ℕ → Bool
only_asks line = option_map_or (λ x. is_asking x.1) (asked_by line) true
