use Rattle.ent_walk.specs.Given.{given_part}
use Rattle.ent_walk.specs.proofs_only.Comes.{Keeps}
use Rattle.ent_walk.proofs.Giving.{IsGiving}
use Rattle.ent_walk.proofs.walk.Walk.givens.Given as goal

abbrev pub invariant-loop-expression : goal.invariant-loop-expression
invariant-loop-expression g l = record {
  giving : IsGiving (given_part (g.L.LookUps.looks l.initial.self.lender.held) l.initial.self.lender.request l.fn.due.definitions.now l.fn.due.effect) l.expressions l.expression-index l.givens l.initial.self.notes l.self.notes;
  keeps : Keeps l.initial.self l.self;
}
