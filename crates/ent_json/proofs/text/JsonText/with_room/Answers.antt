use Rattle.ent_json.proofs.WrittenLemmas.{empty_read, empty_written}
use Rattle.ent_json.proofs.text.JsonText.with_room.Goals as goal

pub invariant_of-result : goal.invariant_of-result
invariant_of-result c = empty_written _ c.in_ok-bytes.ensures.items

pub returns : goal.returns
returns c = empty_read _ c.in_ok-bytes.ensures.items
