use Rattle.std.proofs.Common.{◌≡◌, false, replicate}
use Rattle.lint_places.proofs.scope.Scope.bare.Given as goal

abbrev pub invariant-loop : goal.invariant-loop
invariant-loop g l = l.standing.items ≡ replicate l.index false
