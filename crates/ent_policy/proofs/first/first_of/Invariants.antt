use Rattle.std.proofs.Common.{◌≡◌, take}
use Rattle.ent_policy.specs.First.{first_of}
use Rattle.ent_policy.proofs.first.first_of.Given as goal

abbrev pub invariant-loop-fault : goal.invariant-loop-fault
invariant-loop-fault l = l.first ≡ first_of (take l.fault-index l.faults)
