use Rattle.std.proofs.Common.{◌≡◌, ◌≤◌, IfOk, List, length, sym, ap, subst, ◌∙◌}
use Rattle.ent_cells.specs.Cell.{Kept}
use Rattle.ent_cells.specs.Count.{raised}
use Rattle.ent_eval.specs.LooksOf.{held_by}
use Rattle.ent_finder.specs.Slots.{document_count}
use Rattle.ent_log.specs.Tables.{room_of}
use Rattle.ent_request.specs.Held.{Held}
use Rattle.ent_request.specs.declared.answer.Answer.{Answer}
use Rattle.ent_table.specs.Ask.{answer_in}
use Rattle.ent_table.specs.Fresh.{point_of, state_of}
use Rattle.ent_table.specs.Reviewed.{Reviewed}
use Rattle.ent_table.specs.State.{fresh_cells}
use Rattle.ent_table.proofs.review.Review.ask_shared.Goals as goal

pub invariant_of-self : goal.invariant_of-self
invariant_of-self g c =
    let parts = c.self.inside.parts in
    let new = c.answer_to.new in
    let still = c.self.invariant in
    let done = c.answer_to.ensures in
    let same : held_by new.self.evaluator.pdp ≡ held_by (point_of parts) = ap held_by done.rest in
    record {
      cells = done.kept ∙ still.cells
          ∙ ap (λ (h : Held). fresh_cells (record (state_of parts) { held = h })) (sym same);
      documents = still.documents ∙ ap (λ (h : Held). document_count h.modules) (sym same);
      serial = still.serial;
      limits = still.limits;
      closed = still.closed;
      room = subst (λ (cells : List Kept). length cells ≤ room_of parts.log) (sym done.kept) still.room;
    }

pub returns-clause-answer : goal.returns-clause-answer
returns-clause-answer g c =
    subst (λ (r : Reviewed). IfOk c.answer_to.result (λ (a : Answer). a ≡ answer_in r.state c.args.request.now))
    c.self.view_is c.answer_to.ensures.answer

pub returns-clause-rest : goal.returns-clause-rest
returns-clause-rest g c =
    let parts = c.self.inside.parts in
    let new = c.answer_to.new in
    let done = c.answer_to.ensures in
    let same : held_by new.self.evaluator.pdp ≡ held_by (point_of parts) = ap held_by done.rest in
    (λ i. record {
      state = record { held = same i; names = parts.table.names; serial = parts.log.serial; limits = parts.limits };
      past = record { from = parts.log.from; logged = parts.log.entries.items };
      evaluations = done.counted i;
    })
    ∙ ap (λ (r : Reviewed). record r { evaluations = raised r.evaluations 1 }) c.self.view_is
