use Rattle.ent_dump.proofs.Lining.{line_written}
use Rattle.ent_dump.specs.Dumped.{format_data}
use Rattle.ent_dump.specs.Edits.{edit_data}
use Rattle.ent_dump.proofs.edits.write_format_line.Goals as goal

pub returns : goal.returns
unfolding edit_data
returns c =
    line_written _ _ _ (format_data c.args.version) _ _ c.in_ok-line.ensures c.in_ok-write_format.ensures c.write_line.ensures
