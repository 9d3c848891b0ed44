use Rattle.ent_finder.proofs.Sources.{found_first, none_found}
use Rattle.ent_finder.proofs.law_of_rows.first_source_answers.Goals as goal

pub returns : goal.returns
returns c = record { found = found_first; none = none_found }
