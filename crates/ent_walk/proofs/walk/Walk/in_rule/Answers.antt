use Rattle.std.proofs.Common.{ap, subst, sym, ◌∙◌}
use Rattle.ent_walk.specs.proofs_only.Gathered.{Gathers, Tells}
use Rattle.ent_walk.specs.proofs_only.Judged.{or_nothing}
use Rattle.ent_trace.specs.proofs_only.Path.{keys_of}
use Rattle.ent_walk.specs.Rule.{rule_under}
use Rattle.ent_walk.specs.Target.{target_part}
use Rattle.ent_walk.proofs.Left.{gathers_equal, left_behind, tells_equal}
use Rattle.ent_walk.proofs.Parts.{came_from, keeps_on, on_ok}
use Rattle.ent_walk.proofs.walk.Walk.in_rule.Goals as goal

pub returns-in-NoMatch-clause-gathered : goal.returns-in-NoMatch-clause-gathered
returns-in-NoMatch-clause-gathered g c =
    let under = rule_under (g.L.LookUps.looks c.args.self.now.lender.held) c.args.self.now.lender.request c.args.within.definitions.now (keys_of c.args.within.path.now) c.args.rule.now in
    subst (Gathers c.args.gathering.now c.pass.new.self) (ap (λ t. (under t).value) (sym c.in-NoMatch.is ∙ c.in_ok-targeted.ensures.comes.value)) c.pass.ensures.gathered

pub returns-in-NoMatch-clause-progress : goal.returns-in-NoMatch-clause-progress
returns-in-NoMatch-clause-progress g c =
    let under = rule_under (g.L.LookUps.looks c.args.self.now.lender.held) c.args.self.now.lender.request c.args.within.definitions.now (keys_of c.args.within.path.now) c.args.rule.now in
    subst (λ j. Tells c.args.gathering.now j c.pass.result) (ap (λ t. (under t).value) (sym c.in-NoMatch.is ∙ c.in_ok-targeted.ensures.comes.value)) c.pass.ensures.progress

pub returns-in-NoMatch-clause-notes : goal.returns-in-NoMatch-clause-notes
returns-in-NoMatch-clause-notes g c =
    let looks = g.L.LookUps.looks c.args.self.now.lender.held in
    let under = rule_under looks c.args.self.now.lender.request c.args.within.definitions.now (keys_of c.args.within.path.now) c.args.rule.now in
    record { notes = (left_behind under (target_part looks c.args.self.now.lender.request c.args.rule.now.target) _ c.args.self.now.notes c.target.new.self.notes (sym c.in-NoMatch.is ∙ c.in_ok-targeted.ensures.comes.value) c.in_ok-targeted.ensures.comes.notes).1; keeps = c.in_ok-targeted.ensures.comes.keeps }

pub returns-clause-gathered : goal.returns-clause-gathered
returns-clause-gathered g c =
    let came = came_from g.L.LookUps.looks (λ looks request. rule_under looks request c.args.within.definitions.now (keys_of c.args.within.path.now) c.args.rule.now c.in_ok-targeted.targeted) c.args.self.now c.target.new.self c.rule_after.new.self
    (or_nothing c.in_ok-answer.answer) c.in_ok-targeted.ensures.comes.keeps c.in_ok-answer.ensures.comes in
    let under = rule_under (g.L.LookUps.looks c.args.self.now.lender.held) c.args.self.now.lender.request c.args.within.definitions.now (keys_of c.args.within.path.now) c.args.rule.now in
    gathers_equal c.take.result c.args.gathering.now c.take.new.self _ _ (came.value ∙ ap (λ t. (under t).value) c.in_ok-targeted.ensures.comes.value) c.take.ensures.gathered

pub returns-clause-progress : goal.returns-clause-progress
returns-clause-progress g c =
    let came = came_from g.L.LookUps.looks (λ looks request. rule_under looks request c.args.within.definitions.now (keys_of c.args.within.path.now) c.args.rule.now c.in_ok-targeted.targeted) c.args.self.now c.target.new.self c.rule_after.new.self
    (or_nothing c.in_ok-answer.answer) c.in_ok-targeted.ensures.comes.keeps c.in_ok-answer.ensures.comes in
    let under = rule_under (g.L.LookUps.looks c.args.self.now.lender.held) c.args.self.now.lender.request c.args.within.definitions.now (keys_of c.args.within.path.now) c.args.rule.now in
    tells_equal c.take.result c.args.gathering.now _ _ (came.value ∙ ap (λ t. (under t).value) c.in_ok-targeted.ensures.comes.value) c.take.ensures.progress

pub returns-clause-notes : goal.returns-clause-notes
returns-clause-notes g c =
    let came = came_from g.L.LookUps.looks (λ looks request. rule_under looks request c.args.within.definitions.now (keys_of c.args.within.path.now) c.args.rule.now c.in_ok-targeted.targeted) c.args.self.now c.target.new.self c.rule_after.new.self
    (or_nothing c.in_ok-answer.answer) c.in_ok-targeted.ensures.comes.keeps c.in_ok-answer.ensures.comes in
    let looks = g.L.LookUps.looks c.args.self.now.lender.held in
    let under = rule_under looks c.args.self.now.lender.request c.args.within.definitions.now (keys_of c.args.within.path.now) c.args.rule.now in
    on_ok c.take.result _ (record { notes = came.notes ∙ (left_behind under (target_part looks c.args.self.now.lender.request c.args.rule.now.target) c.in_ok-targeted.targeted c.args.self.now.notes c.target.new.self.notes c.in_ok-targeted.ensures.comes.value c.in_ok-targeted.ensures.comes.notes).1; keeps = keeps_on c.args.self.now c.target.new.self c.rule_after.new.self c.in_ok-targeted.ensures.comes.keeps came.keeps })
