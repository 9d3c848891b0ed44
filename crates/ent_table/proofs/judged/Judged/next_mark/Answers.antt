use Rattle.std.proofs.Common.{sym}
use Rattle.ent_cells.specs.Cell.{failures_in}
use Rattle.ent_cells.proofs.Places.{drop_from, drop_past}
use Rattle.ent_table.proofs.judged.Judged.next_mark.Goals as goal

pub returns-in_err-failed : goal.returns-in_err-failed
returns-in_err-failed g c =
    let judged = c.args.self.now in
    rw c.from_residual.ensures (drop_past (failures_in judged.marks.now.kept) judged.place (sym c.in_err-failed.ensures))

pub returns : goal.returns
returns g c =
    let judged = c.args.self.now in
    drop_from (failures_in judged.marks.now.kept) judged.place c.in_ok-failed.failed (sym c.in_ok-failed.ensures)
