use Rattle.ent_functions.proofs.Parts.{has_part_is}
use Rattle.ent_functions.proofs.logic.is_within.Goals as goal

pub returns : goal.returns
returns c = has_part_is c.args.part.now c.args.text.now c.contains.result c.contains.ensures.cases
