use Rattle.std.proofs.Common.{length, ap, arith}
use Rattle.ent_cells.proofs.Olds.{olds_length}
use Rattle.ent_cells.proofs.phases.prepare.Goals as goal

pub overflow_add-len : goal.overflow_add-len
overflow_add-len g c =
    let few = olds_length c.prepare_all.new.store.cells c.args.keys.now in
    omega (arith, c.requires.fits, c.len.ensures, ap length c.in_ok-olds.ensures, few)
