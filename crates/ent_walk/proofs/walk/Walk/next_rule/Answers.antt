use Rattle.std.proofs.Common.{subst}
use Rattle.ent_walk.specs.proofs_only.Comes.{Adds}
use Rattle.ent_walk.specs.proofs_only.Gathered.{Gathers, Tells}
use Rattle.ent_trace.specs.proofs_only.Path.{keys_of}
use Rattle.ent_walk.specs.Rule.{in_rule}
use Rattle.ent_walk.proofs.Parts.{kept}
use Rattle.ent_walk.proofs.Within.{adds_of_rule}
use Rattle.ent_walk.proofs.walk.Walk.next_rule.Goals as goal

pub returns-clause-gathered : goal.returns-clause-gathered
returns-clause-gathered g c =
    let same = kept g.L.LookUps.looks (λ looks request. in_rule looks request c.args.within.definitions.now (keys_of c.args.within.path.now) c.args.rule.now) c.args.self.now c.enter_rule.new.self c.in_ok-outer.ensures.keeps in
    subst (λ p. Gathers c.args.gathering.now c.in_rule.new.gathering p.value) same c.in_ok-progress.ensures.gathered

pub returns-clause-progress : goal.returns-clause-progress
returns-clause-progress g c =
    let same = kept g.L.LookUps.looks (λ looks request. in_rule looks request c.args.within.definitions.now (keys_of c.args.within.path.now) c.args.rule.now) c.args.self.now c.enter_rule.new.self c.in_ok-outer.ensures.keeps in
    subst (λ p. Tells c.args.gathering.now p.value c.in_ok-progress.progress) same c.in_ok-progress.ensures.progress

pub returns-clause-notes : goal.returns-clause-notes
returns-clause-notes g c =
    let same = kept g.L.LookUps.looks (λ looks request. in_rule looks request c.args.within.definitions.now (keys_of c.args.within.path.now) c.args.rule.now) c.args.self.now c.enter_rule.new.self c.in_ok-outer.ensures.keeps in
    let added = subst (λ p. Adds p.notes c.enter_rule.new.self c.in_rule.new.self) same c.in_ok-progress.ensures.notes in
    adds_of_rule c.args.rule.now.id _ c.args.self.now c.enter_rule.new.self c.in_rule.new.self c.leave_rule.new.self c.in_ok-outer.outer c.in_ok-outer.ensures.notes c.in_ok-outer.ensures.keeps
    added c.in_ok-outer.ensures.outer c.leave_rule.ensures.notes c.leave_rule.ensures.keeps
