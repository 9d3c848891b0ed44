use Rattle.ent_dump.proofs.Lining.{line_written}
use Rattle.ent_dump.specs.Edits.{adding, edit_data, name_data}
use Rattle.ent_dump.proofs.edits.write_name_line.Goals as goal

pub returns : goal.returns
unfolding edit_data
returns c =
    line_written _ _ _ (name_data (adding c.args.list) c.args.name.now) _ _ c.in_ok-line.ensures c.in_ok-write_name.ensures c.write_line.ensures
