use Rattle.std.proofs.Common.{◌≡◌, map, take}
use Rattle.ent_policy.specs.First.{first_of}
use Rattle.ent_policy.specs.Limits.{limit_fault}
use Rattle.ent_policy.proofs.limits.+child.Given as goal

abbrev pub invariant-fault_in_children-loop-child : goal.invariant-fault_in_children-loop-child
invariant-fault_in_children-loop-child l = l.first ≡ first_of (map limit_fault (take l.child-index l.children))
