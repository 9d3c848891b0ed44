use Rattle.ent_functions.proofs.Parts.{ends_is}
use Rattle.ent_functions.proofs.logic.ends.Goals as goal

pub returns : goal.returns
returns c = ends_is c.args.part.now c.args.text.now c.ends_with.result c.ends_with.ensures.cases
