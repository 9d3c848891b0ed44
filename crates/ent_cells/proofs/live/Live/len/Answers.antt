use Rattle.std.proofs.Common.{◌≡◌, arith, length, sym, ap, ◌∙◌}
use Rattle.ent_cells.specs.Cell.{Cells}
use Rattle.ent_cells.proofs.Listed.{kept_long}
use Rattle.ent_cells.proofs.live.Live.len.Goals as goal

pub returns : goal.returns
returns g c =
    let e : length c.self.inside.keys.items ≡ length c.args.self.now.kept = sym (kept_long c.self.inside.store.cells c.self.inside.keys.items c.self.invariant.grid) ∙ ap length (ap (λ (x : Cells). x.kept) c.self.view_is) in
    omega (arith, c.len.ensures)
