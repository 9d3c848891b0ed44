use Rattle.std.proofs.Common.{◌≡◌, false, replicate}
use Rattle.lint_places.proofs.led.only.Given as goal

abbrev pub invariant-loop : goal.invariant-loop
invariant-loop g l = l.led.items ≡ replicate l.index false
