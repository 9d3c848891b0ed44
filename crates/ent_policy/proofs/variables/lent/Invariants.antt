use Rattle.std.proofs.Common.{◌≡◌, map, take}
use Rattle.ent_policy.proofs.variables.lent.Given as goal

abbrev pub invariant-loop-definition : goal.invariant-loop-definition
invariant-loop-definition l = map (λ d. d.now) l.all.items ≡ take l.definition-index l.definitions
