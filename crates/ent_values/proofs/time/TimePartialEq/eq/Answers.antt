use Rattle.std.proofs.Common.{◌∙◌}
use Rattle.ent_values.proofs.Clock.{equal_is}
use Rattle.ent_values.proofs.time.TimePartialEq.eq.Goals as goal

pub returns : goal.returns
returns c = c.eq.ensures ∙ rw (← c.self.view_is, ← c.other.view_is) (equal_is c.self.inside.civil c.other.inside.civil c.self.invariant c.other.invariant)
