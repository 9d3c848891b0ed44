use Rattle.ent_values.proofs.Orders.{value_cmp-value_order}
use Rattle.ent_values.proofs.value.order_is_by_type_and_value.Goals as goal

pub returns : goal.returns
returns c = value_cmp-value_order
