use Rattle.law_compared.proofs.Services as services
use Rattle.law_compared.proofs.law.comparisons_tell_tables.Goals as goal

pub returns : goal.returns
returns c = services.comparisons_tell_tables
