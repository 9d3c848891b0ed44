use Rattle.ent_index.proofs.Rising.{one_seen}
use Rattle.ent_index.proofs.cells.SomeCells.of_one.Goals as goal

pub returns : goal.returns
returns c = rw (c.in_ok-push.ensures.items, c.in_ok-cells.ensures.items) (one_seen c.args.cell)
