use Rattle.std.proofs.Common.{pos, ◌+ℤ◌, to_z, w64}
use Rattle.ent_functions.proofs.Numbers.{stops}
use Rattle.ent_functions.proofs.arithmetic.sum.Goals as goal

pub returns-in_default : goal.returns-in_default
returns-in_default c =
    stops ◌+ℤ◌ (pos 0) (to_z w64 c.loop-argument.total-bits) c.args.arguments.now c.loop-argument.argument-index
    c.argument-item.result c.loop-argument-test.true c.argument-item.is c.loop-argument.invariant.within
    c.loop-argument.invariant.left c.in_default.ensures
