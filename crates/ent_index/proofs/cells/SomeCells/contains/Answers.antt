use Rattle.std.proofs.Common.{ap, ◌∙◌}
use Rattle.ent_index.specs.Cells.{has_cell}
use Rattle.ent_index.proofs.Rising.{is_found}
use Rattle.ent_index.proofs.cells.SomeCells.contains.Goals as goal

pub returns : goal.returns
returns c =
    c.is_ok.ensures.value
    ∙ is_found c.self.inside.cells.items c.args.cell c.self.invariant _ (rw c.deref.ensures.value at c.binary_search.ensures.bound) (rw c.deref.ensures.value at c.binary_search.ensures.position)
    ∙ ap (λ s. has_cell s c.args.cell) c.self.view_is
