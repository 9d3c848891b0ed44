use Rattle.std.proofs.Common.{◌≡◌, false, ℕ, ◌<◌, get_or}
use Rattle.script_files.specs.Sessions.{is_empty}
use Rattle.script_files.specs.declared.line.NumberedLine.{NumberedLine}
use Rattle.script_files.proofs.building.split_paragraph.Given as goal

-- no line so far is empty
abbrev pub invariant-loop-i : goal.invariant-loop-i
invariant-loop-i l = (k : ℕ) (d : NumberedLine) → k < l.i → is_empty (get_or l.lines k d).content ≡ false
