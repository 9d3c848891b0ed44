use Rattle.ent_finder.proofs.KeyLaws.{row_cmp-row_order, wanted_cmp-wanted_key_order}
use Rattle.ent_finder.proofs.law_of_keys.keys_order_by_field.Goals as goal

pub returns : goal.returns
returns c = record { rows = row_cmp-row_order; names = wanted_cmp-wanted_key_order }
