use Rattle.ent_combine.proofs.Choosing.{seen_targets_enough}
use Rattle.ent_combine.proofs.chooser.seen_targets_are_enough.Goals as goal

pub returns : goal.returns
returns c = seen_targets_enough
