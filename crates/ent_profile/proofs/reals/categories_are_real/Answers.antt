use Rattle.std.proofs.Common.{arith, subst}
use Rattle.std.proofs.ByRecursion.{All-more}
use Rattle.std.proofs.lemmas.List.{take_all}
use Rattle.std.specs.List.{AllByRecursion}
use Rattle.ent_profile.specs.proofs_only.Reals.{AttributeIsReal, CategoryIsReal}
use Rattle.ent_profile.proofs.reals.categories_are_real.Goals as goal

pub loop-category-preserved : goal.loop-category-preserved
loop-category-preserved c =
    All-more CategoryIsReal c.args.categories.now c.loop-category.category-index c.category-item.result c.loop-category-test.true c.loop-category.invariant (subst CategoryIsReal c.category-item.is (subst (AllByRecursion AttributeIsReal) c.as_slice.ensures c.attributes_are_real.ensures))

pub returns : goal.returns
returns c = rw (← take_all c.loop-category.category-index c.args.categories.now (omega arith)) c.loop-category.invariant
