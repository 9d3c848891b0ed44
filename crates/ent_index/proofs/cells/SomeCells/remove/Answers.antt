use Rattle.std.proofs.Common.{Err, Ok, ap, sym, ◌∙◌}
use Rattle.ent_index.specs.Cells.{has_cell}
use Rattle.ent_index.proofs.Rising.{is_found, place, remove_absent, remove_rises, remove_seen}
use Rattle.ent_index.proofs.cells.SomeCells.remove.Goals as goal

pub invariant_of-self : goal.invariant_of-self
invariant_of-self c =
    let cells = c.self.inside.cells.items in
    let found = place cells c.args.cell c.self.invariant (Ok c.in-Ok.place) (rw c.deref.ensures.value at c.in-Ok.ensures.bound) (rw c.deref.ensures.value at c.in-Ok.ensures.position) in
    rw c.remove.ensures.items (remove_rises cells c.args.cell c.in-Ok.place c.self.invariant found.found)

pub returns-in-Ok : goal.returns-in-Ok
returns-in-Ok c =
    let cells = c.self.inside.cells.items in
    let found = place cells c.args.cell c.self.invariant (Ok c.in-Ok.place) (rw c.deref.ensures.value at c.in-Ok.ensures.bound) (rw c.deref.ensures.value at c.in-Ok.ensures.position) in
    rw (c.remove.ensures.items, ← c.self.view_is) (remove_seen cells c.args.cell c.in-Ok.place c.self.invariant found.found)

pub returns-in_default : goal.returns-in_default
returns-in_default c =
    remove_absent c.args.self.now c.args.cell (sym (is_found c.self.inside.cells.items c.args.cell c.self.invariant (Err c.in_default.field-0) (rw c.deref.ensures.value at c.in_default.ensures.bound) (rw c.deref.ensures.value at c.in_default.ensures.position)
    ∙ ap (λ s. has_cell s c.args.cell) c.self.view_is))
