use Rattle.std.proofs.Common.{◌≡◌, map, take, true}
use Rattle.lint_links.proofs.links.all_set.Given as goal

abbrev pub invariant-loop : goal.invariant-loop
invariant-loop l = l.flags.items ≡ map (λ _. true) (take l.index l.rows)
