use Rattle.std.proofs.Common.{◌≡◌, ◌≤◌, length, map, slice_get, option_copied, option_map, None, sym, ap, ◌∙◌, ltb-true}
use Rattle.std.proofs.lemmas.Bool.{ltb-false}
use Rattle.std.proofs.lemmas.Option.{slice_get_past}
use Rattle.ent_cells.specs.Cell.{Cells}
use Rattle.ent_cells.specs.proofs_only.Grouping.{shown, shown_kept}
use Rattle.ent_cells.proofs.Listed.{shown_at, shown_past}
use Rattle.ent_cells.proofs.live.Live.cell.Goals as goal

pub returns-in_err-key-clause-cell : goal.returns-in_err-key-clause-cell
returns-in_err-key-clause-cell g c =
    let past : length c.deref.result.now ≤ c.args.place = ltb-false c.args.place (length c.deref.result.now) (sym c.in_err-key.ensures.lookup.0) in
    let none : slice_get c.self.inside.keys.items c.args.place ≡ None = ap (λ ks. slice_get ks c.args.place) (sym c.deref.ensures.value) ∙ slice_get_past c.deref.result.now c.args.place past in
    ap (λ o. option_map shown (option_copied o)) c.from_residual.ensures
    ∙ sym (shown_past shown_kept c.self.inside.store.cells c.self.inside.keys.items c.args.place c.self.invariant.grid none)
    ∙ ap (λ es. slice_get (map shown_kept es) c.args.place) (ap (λ (x : Cells). x.kept) c.self.view_is)

pub returns-in_err-cell-clause-cell : goal.returns-in_err-cell-clause-cell
returns-in_err-cell-clause-cell g c =
    let key = c.in_ok-key.key.now in
    let within = rw c.deref.ensures.value at (ltb-true c.args.place (length c.deref.result.now) (sym c.in_ok-key.ensures.lookup.0)) in
    let read = rw c.deref.ensures.value at c.in_ok-key.ensures.lookup.1 in
    ap (λ o. option_map shown (option_copied o)) c.from_residual-in_err-cell.ensures
    ∙ c.in_err-cell.ensures
    ∙ sym (shown_at shown_kept c.self.inside.store.cells c.self.inside.keys.items c.args.place c.self.invariant.grid key within read)
    ∙ ap (λ es. slice_get (map shown_kept es) c.args.place) (ap (λ (x : Cells). x.kept) c.self.view_is)

pub returns-clause-cell : goal.returns-clause-cell
returns-clause-cell g c =
    let key = c.in_ok-key.key.now in
    let within = rw c.deref.ensures.value at (ltb-true c.args.place (length c.deref.result.now) (sym c.in_ok-key.ensures.lookup.0)) in
    let read = rw c.deref.ensures.value at c.in_ok-key.ensures.lookup.1 in
    c.in_ok-cell.ensures
    ∙ sym (shown_at shown_kept c.self.inside.store.cells c.self.inside.keys.items c.args.place c.self.invariant.grid key within read)
    ∙ ap (λ es. slice_get (map shown_kept es) c.args.place) (ap (λ (x : Cells). x.kept) c.self.view_is)
