use Rattle.ent_finder.proofs.Filled.{filled_restored}
use Rattle.ent_finder.proofs.Kept.{restored}
use Rattle.ent_finder.proofs.RowKeys.{row_cmp_antisymmetric}
use Rattle.ent_finder.proofs.Totals.{row_cmp_total}
use Rattle.ent_finder.proofs.law_of_rows.second_swap_restores_rows.Goals as goal

pub returns : goal.returns
returns c = record { rows = filled_restored; all = λ rows key before values is. restored row_cmp_total rows key row_cmp_antisymmetric before values is }
