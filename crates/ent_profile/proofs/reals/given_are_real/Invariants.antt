use Rattle.std.proofs.Common.{take}
use Rattle.std.specs.List.{AllByRecursion}
use Rattle.ent_profile.specs.proofs_only.Reals.{GivenIsReal}
use Rattle.ent_profile.proofs.reals.given_are_real.Given as goal

-- those so far
abbrev pub invariant-loop-one : goal.invariant-loop-one
invariant-loop-one l = AllByRecursion GivenIsReal (take l.one-index l.given)
