use Rattle.std.proofs.Common.{◌≡◌, ◌++◌, drop}
use Rattle.script_files.specs.Sessions.{paragraph}
use Rattle.script_files.proofs.building.push_paragraph.Given as goal

-- the steps so far, and those of the other lines
abbrev pub invariant-loop-i : goal.invariant-loop-i
invariant-loop-i l = l.steps ++ paragraph (drop l.i l.lines) ≡ l.fn.steps ++ paragraph l.lines
