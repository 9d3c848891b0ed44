use Rattle.ent_finder.proofs.KeyLaws.{same_attr_key-Decides, same_row_key-Decides}
use Rattle.ent_finder.proofs.law_of_keys.same_is_equal.Goals as goal

pub returns : goal.returns
returns c = record { rows = same_row_key-Decides; names = same_attr_key-Decides }
