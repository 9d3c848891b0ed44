use Rattle.ent_functions.proofs.Numbers.{arithmetic_of_two, two_integers_taken}
use Rattle.ent_functions.proofs.arithmetic.calculated.Goals as goal

pub two_integers-first-requires : goal.two_integers-first-requires
two_integers-first-requires c =
    two_integers_taken c.args.function c.args.arguments.now
    (arithmetic_of_two c.args.function c.in_default.not-Add c.in_default.not-Multiply c.in_default.not-Abs c.requires.kind) c.requires.taken
