use Rattle.std.proofs.Common.{arith}
use Rattle.script_matching.proofs.Lists.{depth_of_member}
use Rattle.script_matching.proofs.told.+floats.Goals as goal

pub items_have_float-has_float-requires : goal.items_have_float-has_float-requires
items_have_float-has_float-requires t c =
    let inside = depth_of_member c.args.items.now c.loop-item.item-index c.item-item.result c.loop-item-test.true c.item-item.is in
    (omega (arith, inside), tt)
