use Rattle.std.proofs.Common.{◌≡◌, ◌++◌, drop}
use Rattle.script_files.specs.Sessions.{sessions_in}
use Rattle.script_files.proofs.building.sessions_in.Given as goal

-- the sessions so far, and those of the other lines
abbrev pub invariant-loop-i : goal.invariant-loop-i
invariant-loop-i l = l.sessions ++ sessions_in (drop l.i l.lines) ≡ sessions_in l.lines
