use Rattle.std.proofs.Common.{drop, map}
use Rattle.ent_policy.proofs.Filling.{IsFilling}
use Rattle.ent_policy.proofs.measure.table.Given as goal

abbrev pub invariant-loop-definition : goal.invariant-loop-definition
invariant-loop-definition l = IsFilling l.policy.variables (map (λ d. d.now) (drop l.definition-index l.definition-items)) l.table
