use Rattle.std.proofs.Common.{ap, ◌∙◌}
use Rattle.ent_index.specs.Cells.{in_order}
use Rattle.ent_index.proofs.Rising.{in_order-set_of}
use Rattle.ent_index.proofs.cells.SomeCells.as_slice.Goals as goal

pub returns : goal.returns
returns c = c.as_slice.ensures.value ∙ in_order-set_of _ c.self.invariant ∙ ap in_order c.self.view_is
