use Rattle.std.proofs.Common.{◌/◌}
use Rattle.ent_index.proofs.WordCells.{has_none}
use Rattle.ent_index.proofs.words.take_out.Goals as goal

pub returns-else-is_at-clause-gone : goal.returns-else-is_at-clause-gone
returns-else-is_at-clause-gone c =
    has_none c.args.words.now c.seat-seat.result c.args.cell c.requires c.seat-seat.ensures c.if-is_at.ensures.absent
