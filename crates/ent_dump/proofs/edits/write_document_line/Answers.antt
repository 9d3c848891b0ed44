use Rattle.std.proofs.Common.{codes}
use Rattle.ent_dump.proofs.Lining.{line_written}
use Rattle.ent_dump.specs.Edits.{document_data, edit_data}
use Rattle.ent_dump.proofs.edits.write_document_line.Goals as goal

pub returns : goal.returns
unfolding edit_data
returns c =
    let command = document_data (codes "policy.add") c.args.number c.args.document.now in
    line_written _ _ _ command _ _ c.in_ok-line.ensures c.in_ok-write_document.ensures c.write_line.ensures
