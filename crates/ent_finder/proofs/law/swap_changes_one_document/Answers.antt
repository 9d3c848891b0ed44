use Rattle.ent_finder.proofs.Held.{held-insert}
use Rattle.ent_finder.proofs.Kept.{there_after}
use Rattle.ent_finder.proofs.Totals.{key_cmp_total}
use Rattle.ent_finder.proofs.law.swap_changes_one_document.Goals as goal

pub returns : goal.returns
returns c = record { changes = held-insert; leaves = λ m k v. there_after key_cmp_total m k v }
