use Rattle.law_split.proofs.Spared.{splits_have_a_whole}
use Rattle.law_split.proofs.law.splits_have_a_whole.Goals as goal

pub returns : goal.returns
returns c = splits_have_a_whole
