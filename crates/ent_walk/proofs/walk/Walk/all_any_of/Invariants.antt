use Rattle.ent_walk.specs.proofs_only.Comes.{Keeps}
use Rattle.ent_walk.specs.Target.{any_of_part, is_no_match}
use Rattle.ent_walk.specs.declared.target.Targeted.TheVariants as is
use Rattle.ent_walk.proofs.Targets.{IsSoFar}
use Rattle.ent_walk.proofs.walk.Walk.all_any_of.Given as goal

abbrev pub invariant-loop-element : goal.invariant-loop-element
invariant-loop-element g l = record {
  so_far : IsSoFar is_no_match is.Match (any_of_part (g.L.LookUps.looks l.initial.self.lender.held) l.initial.self.lender.request) l.all l.element-index l.so_far l.initial.self.notes l.self.notes;
  keeps : Keeps l.initial.self l.self;
}
