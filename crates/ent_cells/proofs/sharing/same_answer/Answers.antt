use Rattle.std.proofs.Common.{sym, ◌∙◌}
use Rattle.ent_request.proofs.Sames.{answer-Decides}
use Rattle.ent_cells.proofs.sharing.same_answer.Goals as goal

pub returns-then-eq : goal.returns-then-eq
returns-then-eq c = sym c.get.ensures ∙ (answer-Decides c.get.result.now c.args.answer.now).0 (sym c.eq.ensures ∙ c.if-eq.true)
