use Rattle.ent_functions.proofs.NoFault.{no_fault}
use Rattle.ent_functions.proofs.dispatch.boolean_functions_have_no_fault.Goals as goal

pub returns : goal.returns
returns c = no_fault
