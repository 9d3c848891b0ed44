use Rattle.std.proofs.Common.{◌≡◌, take}
use Rattle.ent_policy.specs.proofs_only.Measure.{found, whole}
use Rattle.ent_policy.proofs.extent.extent_of_each.Given as goal

abbrev pub invariant-loop-part : goal.invariant-loop-part
invariant-loop-part g l = l.all ≡ whole (g.M.Measurable.of (found l.table)) (take l.part-index l.parts)
