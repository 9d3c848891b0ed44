use Rattle.ent_functions.proofs.Same.{same_argument-Decides, same_function-Decides, same_type-Decides}
use Rattle.ent_functions.proofs.arg.same_is_equal.Goals as goal

pub returns-clause-functions : goal.returns-clause-functions
returns-clause-functions c = same_function-Decides

pub returns-clause-types : goal.returns-clause-types
returns-clause-types c = same_type-Decides

pub returns-clause-arguments : goal.returns-clause-arguments
returns-clause-arguments c = same_argument-Decides
