use Rattle.ent_walk.specs.proofs_only.Hops.{child_target}
use Rattle.ent_walk.specs.proofs_only.Comes.{Keeps}
use Rattle.ent_walk.proofs.Choices.{IsChoosing}
use Rattle.ent_walk.proofs.walk.Walk.choose.Given as goal

abbrev pub invariant-loop-child : goal.invariant-loop-child
invariant-loop-child g l = record {
  choosing : IsChoosing (child_target (g.L.LookUps.looks l.initial.self.lender.held) l.initial.self.lender.request l.fn.hops) l.children l.child-index l.chooser l.initial.self.notes l.self.notes;
  keeps : Keeps l.initial.self l.self;
}
