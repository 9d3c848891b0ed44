-- How the program ends, and with which exit status.
use Rattle.std.specs.Prelude.{◌≡◌, ◌≢◌, ◌⊎◌, ℕ, List, Bool, Option, Some, None, Result, Err, ⊤, if◌then◌else◌}
use Rattle.clap.specs.Walk.{Row}
use Rattle.clap.specs.declared.error.kind.ErrorKind.{ErrorKind}
use Rattle.ent_dump.specs.declared.fault.LinesFault.{LinesFault}
use Rattle.ent_wire.specs.declared.fault.ServeFault.{ServeFault}
use Rattle.cli_serve.specs.Limiting.{IsWrongOf}
use Rattle.cli_words.specs.Options.{IsTaskOf}
use Rattle.cli_check.specs.Statuses.{checked_status}
use Rattle.cli_compare.specs.Statuses.{compare_status}
use Rattle.cli_words.specs.Statuses.{limit_status, words_status}
use Rattle.cli_serve.specs.Statuses.{lines_status, serve_status}
use Rattle.cli_compare.specs.declared.differing.Ending.{Ending}
use Rattle.cli_words.specs.declared.asked_states.Failing.{Failing}
use Rattle.cli_check.specs.declared.found.FaultCount.{FaultCount}
use Rattle.cli_words.specs.declared.words.WrongLimit.{WrongLimit}
use Rattle.cli_words.specs.declared.options.Task.{Task}
use Rattle.cli_words.specs.declared.options.Task.TheVariants as task
use Rattle.cli_words.specs.declared.status.Unmet.{Unmet}
use Rattle.cli_words.specs.declared.status.Unmet.TheVariants.{Refused}
use Rattle.cli_words.specs.declared.words.WordsFault.{WordsFault}
use Rattle.cli_test.specs.Ends.{Ran, ran_status}
use Rattle.cli_compare.specs.Ends.{IsOfStates}
use Rattle.clap.specs.declared.error.kind.ErrorKind.TheVariants.{DisplayHelp, DisplayVersion, OutOfMemory}

-- the status of such a command line where what is asked to be told may be lost: that is a write fault
abbrev pub told_status : Bool → ErrorKind → ℕ
told_status lost DisplayHelp = if lost then 2 else 0
told_status lost DisplayVersion = if lost then 2 else 0
told_status lost OutOfMemory = 3
told_status lost other = 1

-- how the program ends
pub data End : Type 0 where
  -- the words of the command line can't be had
  no_words : WordsFault → End
  -- memory is wanting for the forms of command lines
  no_forms : End
  -- the command line asks to be told something, which is lost or not, or can't be used
  usage : Bool → ErrorKind → End
  -- an option writes no limit
  no_limit : End
  -- the command line asks for nothing
  no_task : End
  -- standard input was served
  served : Result ℕ ServeFault → End
  -- the lines of a dump were written
  written : Result ⊤ LinesFault → End
  -- documents were checked, with warnings that count or not
  checked : Bool → Result FaultCount Unmet → End
  -- tables were compared, or one was told with the rules that it lacks; where it is said which differences fail, by these
  compared : Option Failing → Result Ending Unmet → End
  -- tests ran, or were listed
  tested : Result Ran Unmet → End

-- the exit status of each end
abbrev pub end_status : End → ℕ
end_status (no_words e) = words_status e
end_status no_forms = 3
end_status (usage is_lost kind) = told_status is_lost kind
end_status no_limit = limit_status
end_status no_task = 1
end_status (served s) = serve_status s
end_status (written w) = lines_status w
end_status (checked is_strict c) = checked_status is_strict c
end_status (compared failing c) = compare_status failing c
end_status (tested t) = ran_status t

-- an end of a task: what was asked for was done, or it wasn't
abbrev pub IsEndOf : Option Task → End → Type 0
IsEndOf None no_task = ⊤
IsEndOf (Some (task.Serve modules)) (served s) = ⊤
IsEndOf (Some task.Lines) (written w) = ⊤
IsEndOf (Some (task.Check asked)) (checked is_strict c) = is_strict ≡ asked.is_strict
IsEndOf (Some (task.Cover asked)) (compared failing c) = (failing ≡ None) × (c ≢ Err Refused)
IsEndOf (Some (task.Compare states)) (compared failing c) = (failing ≡ states.failing) × IsOfStates states c
IsEndOf (Some (task.Test tests)) (tested t) = ⊤
IsEndOf asked end = ⊥

-- it is the exit status of an end of what the words ask for, by the subcommand that was found in them; or of an option that writes no limit
abbrev pub EndsBy : Option (List ℕ × List Row) → ℕ → Type 0
EndsBy found status = ((wrong : WrongLimit) × IsWrongOf found wrong × (status ≡ limit_status))
    ⊎ ((asked : Option Task) × (end : End) × IsTaskOf found asked × IsEndOf asked end × (status ≡ end_status end))

-- it is the exit status of some end
abbrev pub Ends : ℕ → Type 0
Ends status = (end : End) × (status ≡ end_status end)
