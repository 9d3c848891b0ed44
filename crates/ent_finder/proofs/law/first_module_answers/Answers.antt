use Rattle.ent_finder.proofs.Latest.{first_found, none_found}
use Rattle.ent_finder.proofs.law.first_module_answers.Goals as goal

pub returns : goal.returns
returns c = record { found = first_found; none = none_found }
