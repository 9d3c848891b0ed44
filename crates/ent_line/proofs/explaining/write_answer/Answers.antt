use Rattle.std.proofs.Common.{[], ◌∷◌, codes}
use Rattle.json.specs.Token as token
use Rattle.ent_json.specs.Text.{tokens_of}
use Rattle.ent_profile.specs.Response.{given_written}
use Rattle.ent_command.specs.Wanted.{decision_text}
use Rattle.ent_line.specs.Cells.{list_data}
use Rattle.ent_line.proofs.TextLemmas.{ends}
use Rattle.ent_line.proofs.explaining.write_answer.Goals as goal

pub returns : goal.returns
returns c =
    let decided = token.key (codes "decision") ∷ token.string (decision_text c.args.answer.now.decision)
    ∷ token.key (codes "obligations") ∷ tokens_of (list_data given_written c.as_slice-2.result.now) in
    rw (← c.as_slice.ensures, ← c.as_slice-2.ensures, ← c.as_slice-3.ensures)
    (ends _ _ _ _ (token.begin_object ∷ []) _ c.in_ok-begin_object.ensures.ok
    (ends _ _ _ _ (token.key (codes "advice") ∷ []) _ c.in_ok-key.ensures.ok
    (ends _ _ _ _ (tokens_of (list_data given_written c.as_slice.result.now)) _ c.in_ok-write_given_text.ensures
    (ends _ _ _ _ decided _ c.in_ok-write_decided.ensures c.write_reason.ensures))))
