use Rattle.std.proofs.Common.{◌≡◌, map, take}
use Rattle.ent_policy.specs.First.{first_of}
use Rattle.ent_policy.proofs.limits.fault_in.Given as goal

abbrev pub invariant-loop-part : goal.invariant-loop-part
invariant-loop-part g l = l.first ≡ first_of (map g.L.Limited.exceeds (take l.part-index l.parts))
