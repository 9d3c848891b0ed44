use Rattle.ent_request.proofs.KeyOrders.{by_kind}
use Rattle.ent_request.proofs.same.keys_order_by_kind.Goals as goal

pub returns : goal.returns
returns c = by_kind
