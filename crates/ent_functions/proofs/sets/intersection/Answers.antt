use Rattle.ent_functions.proofs.EachOnce.{in_both_types}
use Rattle.ent_functions.proofs.sets.intersection.Goals as goal

pub of-requires : goal.of-requires
of-requires c =
    rw (c.datatype.ensures, c.in_ok-values.ensures.value, c.values.ensures.value)
    (in_both_types c.args.first.now.datatype c.args.first.now.values c.values-2.result.now c.values.ensures.types)
