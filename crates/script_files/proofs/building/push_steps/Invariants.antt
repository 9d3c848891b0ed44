use Rattle.std.proofs.Common.{◌≡◌, ◌++◌, drop}
use Rattle.script_files.specs.Sessions.{steps_of}
use Rattle.script_files.proofs.building.push_steps.Given as goal

-- the steps so far, and those of the other lines
abbrev pub invariant-loop-i : goal.invariant-loop-i
invariant-loop-i l = l.steps ++ steps_of l.time (drop l.i l.lines) ≡ l.fn.steps ++ steps_of l.time l.lines
