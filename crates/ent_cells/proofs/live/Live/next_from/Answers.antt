use Rattle.std.proofs.Common.{sym}
use Rattle.ent_cells.specs.Cell.{answers_in}
use Rattle.ent_cells.proofs.Places.{drop_from, drop_past}
use Rattle.ent_cells.proofs.live.Live.next_from.Goals as goal

pub returns-in_err-answer : goal.returns-in_err-answer
returns-in_err-answer g c = rw c.from_residual.ensures (drop_past (answers_in c.args.self.now.kept) c.args.place (sym c.in_err-answer.ensures.answer))

pub returns : goal.returns
returns g c = drop_from (answers_in c.args.self.now.kept) c.args.place c.in_ok-answer.answer.now (sym c.in_ok-answer.ensures.answer)
