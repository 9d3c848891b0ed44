use Rattle.ent_functions.proofs.Parts.{begins_is}
use Rattle.ent_functions.proofs.logic.begins.Goals as goal

pub returns : goal.returns
returns c = begins_is c.args.part.now c.args.text.now c.starts_with.result c.starts_with.ensures.cases
