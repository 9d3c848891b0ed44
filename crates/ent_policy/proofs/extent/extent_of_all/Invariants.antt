use Rattle.std.proofs.Common.{◌≡◌, take}
use Rattle.ent_policy.specs.proofs_only.Measure.{whole}
use Rattle.ent_policy.proofs.extent.extent_of_all.Given as goal

abbrev pub invariant-loop-part : goal.invariant-loop-part
invariant-loop-part g l = l.all ≡ whole g.E.Extended.of (take l.part-index l.parts)
