use Rattle.ent_walk.specs.proofs_only.Comes.{Keeps}
use Rattle.ent_walk.specs.proofs_only.Gathered.{HasGathered}
use Rattle.ent_walk.specs.Judged.{stops}
use Rattle.ent_trace.specs.proofs_only.Path.{keys_of}
use Rattle.ent_walk.specs.Rule.{rule_part}
use Rattle.ent_walk.proofs.Going.{IsGoing, values_to}
use Rattle.ent_walk.proofs.walk.Walk.rules.Given as goal

abbrev pub invariant-loop-rule : goal.invariant-loop-rule
invariant-loop-rule g l = record {
  going : IsGoing (stops l.fn.algorithm) (rule_part (g.L.LookUps.looks l.initial.self.lender.held) l.initial.self.lender.request l.fn.within.definitions.now (keys_of l.fn.within.path.now)) l.rules l.rule-index l.initial.self.notes l.self.notes;
  gathered : HasGathered l.fn.algorithm l.gathering (values_to (rule_part (g.L.LookUps.looks l.initial.self.lender.held) l.initial.self.lender.request l.fn.within.definitions.now (keys_of l.fn.within.path.now)) l.rules l.rule-index);
  keeps : Keeps l.initial.self l.self;
}
