use Rattle.ent_policy.specs.Typing.{assignment_is_typed, type_in}
use Rattle.ent_walk.proofs.Giving.{held_some, held_typed}
use Rattle.ent_walk.proofs.walk.Walk.assign.Goals as goal

pub expression-requires : goal.expression-requires
unfolding assignment_is_typed
expression-requires g c = record { typed = held_some (type_in c.args.definitions.now c.args.expression.now.expression) c.requires }

pub add_assigned-requires : goal.add_assigned-requires
unfolding assignment_is_typed
add_assigned-requires g c =
    held_typed (type_in c.args.definitions.now c.args.expression.now.expression) c.in_ok-evaluated.evaluated c.requires c.in_ok-evaluated.ensures.typed
