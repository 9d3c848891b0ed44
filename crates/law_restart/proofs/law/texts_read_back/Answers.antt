use Rattle.law_restart.proofs.Texts as texts
use Rattle.law_restart.proofs.law.texts_read_back.Goals as goal

pub returns : goal.returns
returns c = texts.texts_read_back
