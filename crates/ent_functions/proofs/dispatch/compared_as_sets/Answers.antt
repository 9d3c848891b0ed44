use Rattle.ent_functions.proofs.Taken.{two_bags_taken}
use Rattle.ent_functions.proofs.dispatch.compared_as_sets.Goals as goal

pub two_bags-requires : goal.two_bags-requires
two_bags-requires c = two_bags_taken c.args.function c.args.arguments.now c.requires.kind c.requires.taken
