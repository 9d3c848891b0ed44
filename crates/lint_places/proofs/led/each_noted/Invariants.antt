use Rattle.std.proofs.Common.{◌≡◌, ℕ, List, map, take}
use Rattle.ent_policy.specs.proofs_only.Order.{has_id}
use Rattle.lint_places.specs.Led.{refers_to}
use Rattle.lint_places.proofs.led.each_noted.Given as goal

abbrev pub invariant-loop-definition : goal.invariant-loop-definition
invariant-loop-definition l = (q : List ℕ) → map (λ ids. has_id ids q) l.all.items ≡ map (refers_to q) (take l.definition-index l.definitions)
