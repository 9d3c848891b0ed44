use Rattle.std.proofs.Common.{map, take}
use Rattle.ent_policy.proofs.Ids.{AreGathered}
use Rattle.ent_policy.proofs.limits.has_double_rule.Given as goal

abbrev pub invariant-loop-rule : goal.invariant-loop-rule
invariant-loop-rule l = AreGathered (map (λ r. r.id) (take l.rule-index l.rules)) l.seen
