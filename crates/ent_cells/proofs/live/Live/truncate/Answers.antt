use Rattle.std.proofs.Common.{take, ap, ◌∙◌}
use Rattle.ent_cells.specs.Cell.{Cells}
use Rattle.ent_cells.specs.Entries.{kept_of}
use Rattle.ent_cells.proofs.Listed.{front_filter, front_kept, front_live}
use Rattle.ent_cells.proofs.live.Live.truncate.Goals as goal

pub invariant_of-self : goal.invariant_of-self
invariant_of-self g c =
    let cleared = rw c.deref.ensures.value at c.remove_from.ensures.cells in
    let is = c.keep_present.ensures ∙ front_filter c.self.inside.store.cells c.remove_from.new.store.cells c.args.len c.self.inside.keys.items c.self.invariant cleared in
    rw is (front_live c.self.inside.store.cells c.remove_from.new.store.cells c.args.len c.self.inside.keys.items c.self.invariant cleared)

pub returns-clause-cells : goal.returns-clause-cells
returns-clause-cells g c =
    let cleared = rw c.deref.ensures.value at c.remove_from.ensures.cells in
    let is = c.keep_present.ensures ∙ front_filter c.self.inside.store.cells c.remove_from.new.store.cells c.args.len c.self.inside.keys.items c.self.invariant cleared in
    ap (kept_of c.remove_from.new.store.cells) is
    ∙ front_kept c.self.inside.store.cells c.remove_from.new.store.cells c.args.len c.self.inside.keys.items c.self.invariant cleared
    ∙ ap (take c.args.len) (ap (λ (x : Cells). x.kept) c.self.view_is)

pub returns-clause-evaluator : goal.returns-clause-evaluator
returns-clause-evaluator g c = c.remove_from.ensures.evaluator ∙ ap (λ (x : Cells). x.evaluator) c.self.view_is
