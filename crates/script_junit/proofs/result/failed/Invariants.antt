use Rattle.std.proofs.Common.{◌≡◌, ◌≤◌, take}
use Rattle.script_junit.specs.Junit.{failed}
use Rattle.script_junit.proofs.result.failed.Given as goal

-- those so far that failed are counted
abbrev pub invariant-loop-case : goal.invariant-loop-case
invariant-loop-case l = record { counted : l.count ≡ failed (take l.case-index l.cases); within : l.count ≤ l.case-index }
