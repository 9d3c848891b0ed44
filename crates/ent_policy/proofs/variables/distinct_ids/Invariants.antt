use Rattle.std.proofs.Common.{map, take}
use Rattle.ent_policy.proofs.Ids.{AreGathered}
use Rattle.ent_policy.proofs.variables.distinct_ids.Given as goal

abbrev pub invariant-loop-definition : goal.invariant-loop-definition
invariant-loop-definition l = AreGathered (map (λ d. d.id) (take l.definition-index l.definitions)) l.ids
