use Rattle.law_restart.proofs.Start.{new_services_are_empty}
use Rattle.law_restart.proofs.law.new_services_are_empty.Goals as goal

pub returns : goal.returns
returns c = new_services_are_empty
