use Rattle.std.proofs.Common.{◌≡◌, map, take}
use Rattle.lint_links.proofs.counts.none.Given as goal

abbrev pub invariant-loop : goal.invariant-loop
invariant-loop l = l.counts.items ≡ map (λ _. 0) (take l.index l.rows)
