use Rattle.law_compared.proofs.Laws as laws
use Rattle.law_compared.proofs.law.differences_are_told.Goals as goal

pub returns : goal.returns
returns c = laws.differences_are_told
