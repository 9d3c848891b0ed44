use Rattle.std.proofs.Common.{Some}
use Rattle.ent_dump.proofs.Lining.{line_written}
use Rattle.ent_dump.specs.Edits.{day_data, edit_data}
use Rattle.ent_dump.proofs.edits.write_day_line.Goals as goal

pub returns : goal.returns
unfolding edit_data
returns c =
    line_written _ _ _ (day_data (Some c.args.day)) _ _ c.in_ok-line.ensures c.in_ok-write_day.ensures c.write_line.ensures
