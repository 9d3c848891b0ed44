use Rattle.ent_json.proofs.WrittenLemmas.{empty_read, empty_written}
use Rattle.ent_json.proofs.text.JsonText.new.Goals as goal

pub invariant_of-result : goal.invariant_of-result
invariant_of-result c = empty_written _ c.new.ensures.items

pub returns : goal.returns
returns c = empty_read _ c.new.ensures.items
