use Rattle.ent_finder.proofs.Gathered.{values_of-issuer}
use Rattle.ent_finder.proofs.law_of_rows.issuer_names_one_row.Goals as goal

pub returns : goal.returns
returns c = values_of-issuer
