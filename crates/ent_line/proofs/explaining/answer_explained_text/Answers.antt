use Rattle.std.proofs.Common.{◌∙◌}
use Rattle.ent_eval.specs.LooksOf.{held_by}
use Rattle.ent_telling.specs.Facts.{facts_data}
use Rattle.ent_line.specs.Explained.{answer_data}
use Rattle.ent_line.proofs.ExplainedLemmas.{explained_written}
use Rattle.ent_line.proofs.explaining.answer_explained_text.Goals as goal

pub returns : goal.returns
returns g c =
    let told = facts_data c.args.whole (held_by c.args.pdp.now) c.args.explained.reads in
    let causes = c.args.explained.causes in
    c.into_string.ensures
    ∙ explained_written (answer_data c.args.explained.answer) causes told _ _ _ _ c.in_ok-out.ensures c.in_ok-begin_reply.ensures
    c.in_ok-write_answer.ensures (rw c.as_slice.ensures at c.in_ok-end_reply.ensures)
