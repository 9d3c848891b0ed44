use Rattle.std.proofs.Common.{take}
use Rattle.std.specs.List.{AllByRecursion}
use Rattle.ent_values.specs.ReadBack.{IsReal}
use Rattle.ent_profile.proofs.reals.values_are_real.Given as goal

-- those so far
abbrev pub invariant-loop-value : goal.invariant-loop-value
invariant-loop-value l = AllByRecursion IsReal (take l.value-index l.values)
