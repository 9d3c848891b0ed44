use Rattle.ent_values.proofs.Orders.{type_cmp-type_order}
use Rattle.ent_values.proofs.datatype.types_order_as_listed.Goals as goal

pub returns : goal.returns
returns c = type_cmp-type_order
