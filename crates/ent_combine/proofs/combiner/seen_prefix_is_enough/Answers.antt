use Rattle.ent_combine.proofs.Combining.{enough}
use Rattle.ent_combine.proofs.combiner.seen_prefix_is_enough.Goals as goal

pub returns : goal.returns
returns c = enough
