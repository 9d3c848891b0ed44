-- The exit statuses of tests.
use Rattle.std.specs.Prelude.{ℕ, ◌==◌, ◌&&◌, nat_lt, Bool, Option, Some, None, Result, Ok, Err, if◌then◌else◌}
use Rattle.ent_wire.specs.declared.fault.ServeFault.{ServeFault}
use Rattle.cli_test.specs.declared.tally.Tally.{Tally}
use Rattle.cli_words.specs.Statuses.{fault_status}

-- tests that all passed give 0, any that failed 1, none 1 too, and a fault its own status
abbrev pub test_status : Result Tally ServeFault → ℕ
test_status (Ok tally) = if tally.failed == 0 && nat_lt 0 tally.passed then 0 else 1
test_status (Err e) = fault_status e

-- where the tests of a file ended with a fault, that gives its own status, the last one if there are several
abbrev pub last_status : Option ServeFault → ℕ → ℕ
last_status None status = status
last_status (Some e) status = fault_status e

-- tests that all passed give 1 where fewer rules than have to gave a decision
abbrev pub covered_status : Bool → ℕ → ℕ
covered_status is_short status = if is_short && status == 0 then 1 else status
