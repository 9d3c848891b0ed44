use Rattle.std.proofs.Common.{arith, subst}
use Rattle.std.proofs.ByRecursion.{All-more}
use Rattle.std.proofs.lemmas.List.{take_all}
use Rattle.std.specs.List.{AllByRecursion}
use Rattle.ent_values.specs.ReadBack.{IsReal}
use Rattle.ent_profile.specs.proofs_only.Reals.{AttributeIsReal}
use Rattle.ent_profile.proofs.reals.attributes_are_real.Goals as goal

pub loop-attribute-preserved : goal.loop-attribute-preserved
loop-attribute-preserved c =
    All-more AttributeIsReal c.args.attributes.now c.loop-attribute.attribute-index c.attribute-item.result c.loop-attribute-test.true c.loop-attribute.invariant (subst AttributeIsReal c.attribute-item.is (subst (AllByRecursion IsReal) c.values.ensures.value c.values_are_real.ensures))

pub returns : goal.returns
returns c = rw (← take_all c.loop-attribute.attribute-index c.args.attributes.now (omega arith)) c.loop-attribute.invariant
