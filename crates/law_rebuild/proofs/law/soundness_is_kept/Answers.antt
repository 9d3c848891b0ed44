use Rattle.law_rebuild.proofs.Kept.{soundness_kept}
use Rattle.law_rebuild.proofs.law.soundness_is_kept.Goals as goal

pub returns : goal.returns
returns c = soundness_kept
