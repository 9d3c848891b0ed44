use Rattle.std.proofs.Common.{length, ap, arith}
use Rattle.ent_report.proofs.desk.Desk.counted.Goals as goal

pub counted-requires : goal.counted-requires
counted-requires g c = omega (arith, c.cell_count-count.ensures, ap length c.cells.ensures, c.cell_count-count.type_inv)
