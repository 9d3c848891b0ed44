use Rattle.ent_table.specs.Left.{cells_left}
use Rattle.ent_table.proofs.Turns.{zip_nothing}
use Rattle.ent_table.proofs.judged.JudgedIterator.next.Goals as goal

pub returns-in_err-failed-clause-steps : goal.returns-in_err-failed-clause-steps
returns-in_err-failed-clause-steps g c =
    let none = zip_nothing (cells_left c.args.self.now.cells) _ c.in_err-failed.ensures in
    rw c.from_residual.ensures (none, none)
