use Rattle.std.proofs.Common.{sym, ◌∙◌}
use Rattle.ent_table.specs.Left.{answers_left}
use Rattle.ent_table.proofs.Turns.{zip_nothing}
use Rattle.ent_table.proofs.cells.CellsIterator.next.Goals as goal

pub returns-in_err-answer-clause-steps : goal.returns-in_err-answer-clause-steps
returns-in_err-answer-clause-steps g c =
    let none = zip_nothing _ (answers_left c.next_person.new.self) c.in_err-answer.ensures in
    rw c.from_residual.ensures (sym (c.next_person.ensures.same ∙ c.next_action.ensures.same) ∙ none, none)
