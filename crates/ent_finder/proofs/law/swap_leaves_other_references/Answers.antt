use Rattle.ent_finder.proofs.Elsewhere.{same_resolved}
use Rattle.ent_finder.proofs.law.swap_leaves_other_references.Goals as goal

pub returns : goal.returns
returns c = same_resolved
