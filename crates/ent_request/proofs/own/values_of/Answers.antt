use Rattle.ent_request.specs.Own.{values_in}
use Rattle.ent_request.specs.proofs_only.Sought.{designator_of}
use Rattle.ent_request.proofs.Apart.{next_so_far}
use Rattle.ent_request.proofs.own.values_of.Goals as goal

pub loop-attribute-preserved : goal.loop-attribute-preserved
loop-attribute-preserved c =
    next_so_far c.args.sought.now.datatype (values_in (designator_of c.args.sought.now)) c.attributes_in-attribute-items.result.now c.loop-attribute.attribute-index c.loop-attribute.so_far.now c.loop-attribute.invariant
    c.attribute-item.result c.values_in.result.now c.in_ok-so_far.so_far.now c.loop-attribute-test.true c.attribute-item.is c.values_in.ensures.value c.values_in.ensures.types c.in_ok-so_far.ensures
