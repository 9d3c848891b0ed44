use Rattle.ent_finder.proofs.Filled.{filled-insert}
use Rattle.ent_finder.proofs.Kept.{there_after}
use Rattle.ent_finder.proofs.Totals.{row_cmp_total}
use Rattle.ent_finder.proofs.law_of_rows.swap_changes_one_row.Goals as goal

pub returns : goal.returns
returns c = record { changes = filled-insert; leaves = λ rows key values. there_after row_cmp_total rows key values }
