use Rattle.std.proofs.Common.{Some}
use Rattle.ent_dump.proofs.Lining.{line_written}
use Rattle.ent_dump.specs.Edits.{edit_data, moment_data}
use Rattle.ent_dump.proofs.edits.write_moment_line.Goals as goal

pub returns : goal.returns
unfolding edit_data
returns c =
    line_written _ _ _ (moment_data (Some c.args.moment)) _ _ c.in_ok-line.ensures c.in_ok-write_moment.ensures c.write_line.ensures
