-- The exit statuses of faults and of the words of the command line.
use Rattle.std.specs.Prelude.{ℕ}
use Rattle.clap.specs.declared.error.kind.ErrorKind.{ErrorKind}
use Rattle.clap.specs.declared.error.kind.ErrorKind.TheVariants.{DisplayHelp, DisplayVersion, OutOfMemory}
use Rattle.ent_wire.specs.declared.fault.ServeFault.{ServeFault}
use Rattle.ent_wire.specs.declared.fault.ServeFault.TheVariants as fault
use Rattle.cli_words.specs.declared.status.Unmet.{Unmet}
use Rattle.cli_words.specs.declared.status.Unmet.TheVariants as unmet
use Rattle.cli_words.specs.declared.words.WordsFault.{WordsFault}
use Rattle.cli_words.specs.declared.words.WordsFault.TheVariants as words

-- a read or write fault gives 2, want of memory 3
abbrev pub fault_status : ServeFault → ℕ
fault_status fault.Read = 2
fault_status fault.Write = 2
fault_status fault.Memory = 3

-- what was asked for wasn't done: where the words can't be meant together or a file was refused that gives 1, and a fault its own status
abbrev pub unmet_status : Unmet → ℕ
unmet_status unmet.Refused = 1
unmet_status (unmet.Failed e) = fault_status e

-- a word of the command line that isn't UTF-8 gives 1, want of memory 3
abbrev pub words_status : WordsFault → ℕ
words_status words.NotText = 1
words_status words.Memory = 3

-- a limit that can't be taken gives 2
abbrev pub limit_status : ℕ
limit_status = 2

-- a command line that asks for help gives 0, want of memory 3, and any that can't be used 1
abbrev pub usage_status : ErrorKind → ℕ
usage_status DisplayHelp = 0
usage_status DisplayVersion = 0
usage_status OutOfMemory = 3
usage_status other = 1
