use Rattle.std.proofs.Common.{arith, subst}
use Rattle.std.proofs.ByRecursion.{All-more}
use Rattle.std.proofs.lemmas.List.{take_all}
use Rattle.ent_values.specs.ReadBack.{IsReal}
use Rattle.ent_profile.proofs.reals.assignments_are_real.Goals as goal

pub loop-assignment-preserved : goal.loop-assignment-preserved
loop-assignment-preserved c =
    All-more (λ a. IsReal a.value) c.args.assignments.now c.loop-assignment.assignment-index c.assignment-item.result c.loop-assignment-test.true c.loop-assignment.invariant (subst (λ a. IsReal a.value) c.assignment-item.is c.value_is_real.ensures)

pub returns : goal.returns
returns c = rw (← take_all c.loop-assignment.assignment-index c.args.assignments.now (omega arith)) c.loop-assignment.invariant
