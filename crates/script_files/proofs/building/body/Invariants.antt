use Rattle.std.proofs.Common.{◌≡◌, ◌++◌, length}
use Rattle.script_files.specs.Sessions.{body}
use Rattle.script_files.proofs.building.body.Given as goal

-- the steps so far, and those of the rest
abbrev pub invariant-loop-paragraph : goal.invariant-loop-paragraph
invariant-loop-paragraph l = l.steps ++ body l.rest ≡ body l.lines

abbrev pub decreases-loop-paragraph : goal.decreases-loop-paragraph
decreases-loop-paragraph l = length l.rest
