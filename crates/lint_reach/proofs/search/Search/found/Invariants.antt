use Rattle.std.proofs.Common.{◌≡◌, map}
use Rattle.lint_reach.proofs.search.Search.found.Given as goal

abbrev pub invariant-loop-place : goal.invariant-loop-place
invariant-loop-place l = l.found.items ≡ map (λ place. place.now) l.yielded
