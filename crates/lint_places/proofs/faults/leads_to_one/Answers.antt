use Rattle.lint_places.proofs.Leading.{one_place}
use Rattle.lint_places.proofs.faults.leads_to_one.Goals as goal

pub returns : goal.returns
returns c = one_place
