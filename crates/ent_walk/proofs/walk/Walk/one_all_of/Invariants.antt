use Rattle.ent_walk.specs.proofs_only.Comes.{Keeps}
use Rattle.ent_walk.specs.Target.{all_of_part, is_match}
use Rattle.ent_walk.specs.declared.target.Targeted.TheVariants as is
use Rattle.ent_walk.proofs.Targets.{IsSoFar}
use Rattle.ent_walk.proofs.walk.Walk.one_all_of.Given as goal

abbrev pub invariant-loop-alternative : goal.invariant-loop-alternative
invariant-loop-alternative g l = record {
  so_far : IsSoFar is_match is.NoMatch (all_of_part (g.L.LookUps.looks l.initial.self.lender.held) l.initial.self.lender.request) l.alternatives l.alternative-index l.so_far l.initial.self.notes l.self.notes;
  keeps : Keeps l.initial.self l.self;
}
