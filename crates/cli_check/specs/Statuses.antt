-- The exit status of a check.
use Rattle.std.specs.Prelude.{ℕ, ◌==◌, ◌&&◌, ◌||◌, Bool, not, Result, Ok, Err, if◌then◌else◌}
use Rattle.cli_check.specs.declared.found.FaultCount.{FaultCount}
use Rattle.cli_words.specs.declared.status.Unmet.{Unmet}
use Rattle.cli_words.specs.Statuses.{unmet_status}

-- what was found gives 0 where it is no fault, and no warning where these count, and else 1
abbrev pub found_status : Bool → FaultCount → ℕ
found_status is_strict found = if found.faults == 0 && (found.warnings == 0 || not is_strict) then 0 else 1

-- a check gives the status of what was found, where warnings count or not
abbrev pub checked_status : Bool → Result FaultCount Unmet → ℕ
checked_status is_strict (Ok found) = found_status is_strict found
checked_status is_strict (Err u) = unmet_status u
