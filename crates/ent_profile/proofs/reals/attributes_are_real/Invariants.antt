use Rattle.std.proofs.Common.{take}
use Rattle.std.specs.List.{AllByRecursion}
use Rattle.ent_profile.specs.proofs_only.Reals.{AttributeIsReal}
use Rattle.ent_profile.proofs.reals.attributes_are_real.Given as goal

-- those so far
abbrev pub invariant-loop-attribute : goal.invariant-loop-attribute
invariant-loop-attribute l = AllByRecursion AttributeIsReal (take l.attribute-index l.attributes)
