use Rattle.std.proofs.Common.{◌≡◌, ◌++◌, length, map}
use Rattle.script_files.specs.Cut.{cut}
use Rattle.script_files.proofs.cut.cut.Given as goal

-- the parts so far, and those of the rest
abbrev pub invariant-loop-front : goal.invariant-loop-front
invariant-loop-front l = map (λ p. p.now) l.parts.items ++ cut l.mark l.rest ≡ cut l.mark l.text

abbrev pub decreases-loop-front : goal.decreases-loop-front
decreases-loop-front l = length l.rest
