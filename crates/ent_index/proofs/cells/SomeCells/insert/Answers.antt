use Rattle.std.proofs.Common.{Err, Ok, ap, sym, ◌∙◌}
use Rattle.ent_index.specs.Cells.{has_cell}
use Rattle.ent_index.proofs.Rising.{insert_rises, insert_seen, insert_there, is_found, place}
use Rattle.ent_index.proofs.cells.SomeCells.insert.Goals as goal

pub invariant_of-self : goal.invariant_of-self
invariant_of-self c =
    let cells = c.self.inside.cells.items in
    let found = place cells c.args.cell c.self.invariant (Err c.in-Err.place) (rw c.deref.ensures.value at c.in-Err.ensures.bound) (rw c.deref.ensures.value at c.in-Err.ensures.position) in
    rw c.in_ok-insert.ensures.items (insert_rises cells c.args.cell c.in-Err.place c.self.invariant found.absent)

pub returns-in_default-clause-ok : goal.returns-in_default-clause-ok
returns-in_default-clause-ok c =
    insert_there c.args.self.now c.args.cell (sym (is_found c.self.inside.cells.items c.args.cell c.self.invariant (Ok c.in_default.field-0) (rw c.deref.ensures.value at c.in_default.ensures.bound) (rw c.deref.ensures.value at c.in_default.ensures.position)
    ∙ ap (λ s. has_cell s c.args.cell) c.self.view_is))

pub returns-in_ok-insert-clause-ok : goal.returns-in_ok-insert-clause-ok
returns-in_ok-insert-clause-ok c =
    let cells = c.self.inside.cells.items in
    let found = place cells c.args.cell c.self.invariant (Err c.in-Err.place) (rw c.deref.ensures.value at c.in-Err.ensures.bound) (rw c.deref.ensures.value at c.in-Err.ensures.position) in
    rw (c.in_ok-insert.ensures.items, ← c.self.view_is) (insert_seen cells c.args.cell c.in-Err.place c.self.invariant found.absent)
