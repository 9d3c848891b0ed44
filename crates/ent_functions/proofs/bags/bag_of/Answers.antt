use Rattle.ent_functions.specs.Types.{element_type}
use Rattle.ent_functions.proofs.Held.{held_values}
use Rattle.ent_functions.proofs.bags.bag_of.Goals as goal

pub of-requires : goal.of-requires
of-requires c =
    rw (c.datatype.ensures, c.in_ok-values.ensures.value)
    (held_values (element_type c.args.element) c.args.arguments.now c.requires c.in_ok-values.ensures.held)
