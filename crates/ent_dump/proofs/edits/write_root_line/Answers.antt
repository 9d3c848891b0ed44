use Rattle.std.proofs.Common.{Some}
use Rattle.ent_dump.proofs.Lining.{line_written}
use Rattle.ent_dump.specs.Edits.{edit_data, root_data}
use Rattle.ent_dump.proofs.edits.write_root_line.Goals as goal

pub returns : goal.returns
unfolding edit_data
returns c =
    line_written _ _ _ (root_data (Some c.args.root.now)) _ _ c.in_ok-line.ensures c.in_ok-write_root.ensures c.write_line.ensures
