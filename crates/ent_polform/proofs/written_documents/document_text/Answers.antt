use Rattle.std.proofs.Common.{◌∙◌}
use Rattle.ent_polform.specs.Written.{written}
use Rattle.ent_polform.proofs.TextLemmas.{whole_text}
use Rattle.ent_polform.proofs.written_documents.document_text.Goals as goal

pub returns : goal.returns
returns c =
    c.into_string.ensures ∙ whole_text (written c.args.document.now) _ _ c.in_ok-out.ensures c.in_ok-write_document_text.ensures
