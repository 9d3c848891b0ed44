use Rattle.std.proofs.Common.{◌∙◌}
use Rattle.ent_values.proofs.Orders.{value_cmp-value_order}
use Rattle.ent_functions.proofs.logic.order.Goals as goal

pub returns : goal.returns
returns c = c.cmp.ensures ∙ value_cmp-value_order c.args.first.now c.args.second.now
