use Rattle.std.proofs.Common.{◌≡◌, false, ℕ, ◌<◌, get_or}
use Rattle.script_files.specs.Standing.{is_heading}
use Rattle.script_files.specs.declared.line.NumberedLine.{NumberedLine}
use Rattle.script_files.proofs.building.up_to_heading.Given as goal

-- no line so far is a heading
abbrev pub invariant-loop-i : goal.invariant-loop-i
invariant-loop-i l = (k : ℕ) (d : NumberedLine) → k < l.i → is_heading (get_or l.lines k d).content ≡ false
