-- The exit statuses of serving and of writing the lines of a dump.
use Rattle.std.specs.Prelude.{ℕ, Result, Ok, Err, ⊤}
use Rattle.ent_dump.specs.declared.fault.LinesFault.{LinesFault}
use Rattle.ent_dump.specs.declared.fault.LinesFault.TheVariants as dump
use Rattle.ent_wire.specs.declared.fault.ServeFault.{ServeFault}
use Rattle.cli_words.specs.Statuses.{fault_status}

-- serving that ends with its input gives 0, whatever the number of lines, and a fault its own status
abbrev pub serve_status : Result ℕ ServeFault → ℕ
serve_status (Ok lines) = 0
serve_status (Err e) = fault_status e

-- input that is no dump gives 1, a read or write fault 2, want of memory 3
abbrev pub lines_fault_status : LinesFault → ℕ
lines_fault_status dump.NotDump = 1
lines_fault_status dump.Read = 2
lines_fault_status dump.Write = 2
lines_fault_status dump.Memory = 3

-- lines of a dump that were all written give 0, and a fault its own status
abbrev pub lines_status : Result ⊤ LinesFault → ℕ
lines_status (Ok done) = 0
lines_status (Err e) = lines_fault_status e
