use Rattle.ent_table.proofs.Doubles.{no_name_is_twice}
use Rattle.ent_table.proofs.law.no_name_is_twice.Goals as goal

pub returns : goal.returns
returns c = no_name_is_twice
