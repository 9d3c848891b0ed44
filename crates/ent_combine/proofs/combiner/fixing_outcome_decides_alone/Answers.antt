use Rattle.ent_combine.proofs.Combining.{fixes_alone}
use Rattle.ent_combine.proofs.combiner.fixing_outcome_decides_alone.Goals as goal

pub returns : goal.returns
returns c = fixes_alone
