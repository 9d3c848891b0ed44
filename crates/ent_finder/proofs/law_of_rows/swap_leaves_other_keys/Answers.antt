use Rattle.ent_finder.proofs.Elsewhere.{same_looked}
use Rattle.ent_finder.proofs.law_of_rows.swap_leaves_other_keys.Goals as goal

pub returns : goal.returns
returns c = same_looked
