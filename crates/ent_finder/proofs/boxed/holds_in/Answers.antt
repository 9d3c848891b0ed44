use Rattle.std.proofs.Common.{◌∙◌}
use Rattle.ent_finder.proofs.Held.{held_seen}
use Rattle.ent_finder.proofs.boxed.holds_in.Goals as goal

pub returns : goal.returns
returns g c = c.is_some.ensures ∙ held_seen _ _ c.document_in.result c.document_in.ensures
