-- What is said on standard error beside what is served.
use Rattle.std.specs.Prelude.{ℕ, List, codes}
use Rattle.ent_dump.specs.declared.fault.LinesFault.{LinesFault}
use Rattle.ent_dump.specs.declared.fault.LinesFault.TheVariants as dump

-- where the lines of a dump weren't written, or not all
abbrev pub lines_sentence : LinesFault → List ℕ
lines_sentence dump.NotDump = codes "review: not a dump"
lines_sentence dump.Read = codes "review: read fault"
lines_sentence dump.Write = codes "review: write fault"
lines_sentence dump.Memory = codes "review: out of memory"

-- to somebody who serves lines that are typed at a terminal
abbrev pub terminal_sentence : List ℕ
terminal_sentence = codes "review: one command a line, as docs/COMMANDS.md says; Ctrl-D at the beginning of a line ends; a terminal cuts lines at 4,095 bytes"
