use Rattle.std.proofs.Common.{arith, subst}
use Rattle.std.proofs.ByRecursion.{All-more}
use Rattle.std.proofs.lemmas.List.{take_all}
use Rattle.std.specs.List.{AllByRecursion}
use Rattle.ent_values.specs.ReadBack.{IsReal}
use Rattle.ent_profile.specs.proofs_only.Reals.{GivenIsReal}
use Rattle.ent_profile.proofs.reals.given_are_real.Goals as goal

pub loop-one-preserved : goal.loop-one-preserved
loop-one-preserved c =
    All-more GivenIsReal c.args.given.now c.loop-one.one-index c.one-item.result c.loop-one-test.true c.loop-one.invariant (subst GivenIsReal c.one-item.is (subst (AllByRecursion (λ a. IsReal a.value)) c.as_slice.ensures c.assignments_are_real.ensures))

pub returns : goal.returns
returns c = rw (← take_all c.loop-one.one-index c.args.given.now (omega arith)) c.loop-one.invariant
