use Rattle.ent_finder.proofs.Gathered.{values_of-filled}
use Rattle.ent_finder.proofs.law_of_rows.empty_rows_do_not_count.Goals as goal

pub returns : goal.returns
returns c = values_of-filled
