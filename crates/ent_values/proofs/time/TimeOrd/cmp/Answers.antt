use Rattle.std.proofs.Common.{◌∙◌}
use Rattle.ent_values.proofs.Clock.{order_is}
use Rattle.ent_values.proofs.time.TimeOrd.cmp.Goals as goal

pub returns : goal.returns
returns c = c.cmp.ensures ∙ rw (← c.self.view_is, ← c.other.view_is) (order_is c.self.inside.civil c.other.inside.civil c.self.invariant c.other.invariant)
