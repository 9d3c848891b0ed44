use Rattle.ent_finder.proofs.Held.{held_restored}
use Rattle.ent_finder.proofs.Keys.{key_cmp_antisymmetric}
use Rattle.ent_finder.proofs.Kept.{restored}
use Rattle.ent_finder.proofs.Totals.{key_cmp_total}
use Rattle.ent_finder.proofs.law.second_swap_undoes_first.Goals as goal

pub returns : goal.returns
returns c = record { documents = held_restored; slots = λ m k u v is. restored key_cmp_total m k key_cmp_antisymmetric u v is }
