use Rattle.ent_index.proofs.Views.{none_sound}
use Rattle.ent_index.proofs.index.Index.new.Goals as goal

pub invariant_of-result : goal.invariant_of-result
invariant_of-result c = none_sound c.new.result c.new.ensures.empty
