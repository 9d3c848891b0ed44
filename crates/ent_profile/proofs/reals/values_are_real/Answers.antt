use Rattle.std.proofs.Common.{arith, subst}
use Rattle.std.proofs.ByRecursion.{All-more}
use Rattle.std.proofs.lemmas.List.{take_all}
use Rattle.ent_values.specs.ReadBack.{IsReal}
use Rattle.ent_profile.proofs.reals.values_are_real.Goals as goal

pub loop-value-preserved : goal.loop-value-preserved
loop-value-preserved c =
    All-more IsReal c.args.values.now c.loop-value.value-index c.value-item.result c.loop-value-test.true c.loop-value.invariant (subst IsReal c.value-item.is c.value_is_real.ensures)

pub returns : goal.returns
returns c = rw (← take_all c.loop-value.value-index c.args.values.now (omega arith)) c.loop-value.invariant
