use Rattle.std.proofs.Common.{◌+◌, ◌*◌}
use Rattle.ent_walk.specs.proofs_only.Comes.{Keeps}
use Rattle.ent_walk.specs.Expression.{meaning}
use Rattle.ent_walk.specs.proofs_only.Typed.{type_of, worth}
use Rattle.ent_walk.proofs.Arguments.{AreEvaluated}
use Rattle.ent_walk.proofs.walk.Walk.+expression.Given as goal

abbrev pub decreases-application : goal.decreases-application
decreases-application g l = l.references * worth l.definitions.now + 4 * goal.size-application g l + 3

abbrev pub decreases-of_each : goal.decreases-of_each
decreases-of_each g l = l.references * worth l.definitions.now + 4 * goal.size-of_each g l + 2

abbrev pub decreases-expression : goal.decreases-expression
decreases-expression g l = l.references * worth l.definitions.now + 4 * goal.size-expression g l + 1

abbrev pub decreases-variable : goal.decreases-variable
decreases-variable g l = l.references * worth l.definitions.now

abbrev pub invariant-of_each-loop-argument : goal.invariant-of_each-loop-argument
invariant-of_each-loop-argument g l = record {
  evaluated : AreEvaluated l.function (meaning (g.L.LookUps.looks l.initial.self.lender.held) l.initial.self.lender.request l.definitions l.references) (type_of l.definitions l.references) l.arguments l.argument-index l.evaluated
      l.initial.self.notes l.self.notes;
  keeps : Keeps l.initial.self l.self;
}
