use Rattle.law_compared.proofs.Services as services
use Rattle.law_compared.proofs.law.tables_are_replies.Goals as goal

pub returns : goal.returns
returns c = services.tables_are_replies
