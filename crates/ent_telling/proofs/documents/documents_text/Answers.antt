use Rattle.std.proofs.Common.{◌∙◌}
use Rattle.std.specs.Option.{option_copied}
use Rattle.ent_eval.specs.LooksOf.{held_by}
use Rattle.ent_telling.specs.Documents.{documents_data, documents_text}
use Rattle.ent_telling.proofs.Told.{text_written}
use Rattle.ent_telling.proofs.documents.documents_text.Goals as goal

pub returns : goal.returns
unfolding documents_text
returns g c =
    let held = held_by c.args.pdp.now in
    c.into_string.ensures ∙ text_written (documents_data held (option_copied c.args.id)) _ _ c.in_ok-out.ensures c.in_ok-write_documents.ensures
