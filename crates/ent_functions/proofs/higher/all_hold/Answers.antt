use Rattle.std.proofs.Common.{map}
use Rattle.ent_functions.specs.Arguments.{type_of_arg}
use Rattle.ent_functions.proofs.Inner.{inner_taken, test_by_type}
use Rattle.ent_functions.proofs.higher.all_hold.Goals as goal

pub all_hold_with-requires-clause-test : goal.all_hold_with-requires-clause-test
all_hold_with-requires-clause-test c = test_by_type c.args.function (map type_of_arg c.args.arguments.now) c.requires.1

pub all_hold_with-requires-clause-taken : goal.all_hold_with-requires-clause-taken
all_hold_with-requires-clause-taken c =
    rw c.bag_values.ensures.value
    (inner_taken c.args.function c.args.arguments.now c.loop-argument.argument-index c.argument-item.result c.requires
    c.loop-argument-test.true c.argument-item.is c.bag_values.ensures.types)
