use Rattle.law_compared.proofs.Laws as laws
use Rattle.law_compared.proofs.law.nothing_is_told_of_the_same.Goals as goal

pub returns : goal.returns
returns c = laws.nothing_is_told_of_the_same
