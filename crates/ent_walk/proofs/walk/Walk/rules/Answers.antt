use Rattle.std.proofs.Common.{◌∙◌, ap, arith}
use Rattle.std.proofs.lemmas.Result.{IfOk-weaker}
use Rattle.ent_trace.specs.proofs_only.Path.{keys_of}
use Rattle.ent_walk.specs.proofs_only.Judged.{or_nothing}
use Rattle.ent_walk.specs.Node.{rules_combined}
use Rattle.ent_walk.specs.Rule.{rule_part}
use Rattle.ent_walk.proofs.Children.{all_children, all_notes, last_child, last_notes, next_child}
use Rattle.ent_trace.specs.proofs_only.Noted.{noting}
use Rattle.ent_walk.proofs.Parts.{comes, kept, keeps_on, on_ok}
use Rattle.ent_walk.proofs.walk.Walk.rules.Goals as goal

pub returns-in-Stop : goal.returns-in-Stop
returns-in-Stop g c =
    let same = kept g.L.LookUps.looks (λ looks request. rule_part looks request c.args.within.definitions.now (keys_of c.args.within.path.now) c.rule-item.result) c.args.self.now c.loop-rule.self c.loop-rule.invariant.keeps in
    let keeps = keeps_on c.args.self.now c.loop-rule.self c.next_rule.new.self c.loop-rule.invariant.keeps c.in_ok-progress.ensures.notes.keeps in
    record {
      comes = comes or_nothing c.finish.result (rules_combined (g.L.LookUps.looks c.args.self.now.lender.held) c.args.self.now.lender.request c.args.within.definitions.now (keys_of c.args.within.path.now) c.args.algorithm c.args.rules.now) c.args.self.now _
          (IfOk-weaker c.finish.result _ _ (λ a is. last_child (keys_of c.args.within.path.now) c.args.algorithm (rule_part (g.L.LookUps.looks c.args.self.now.lender.held) c.args.self.now.lender.request c.args.within.definitions.now (keys_of c.args.within.path.now)) c.args.rules.now c.loop-rule.rule-index c.rule-item.result _ c.in_ok-progress.progress
          c.loop-rule.gathering c.next_rule.new.gathering c.args.self.now.notes c.loop-rule.self.notes c.next_rule.new.self.notes
          c.loop-rule-test.true c.rule-item.is c.loop-rule.invariant.going c.loop-rule.invariant.gathered (ap (λ p. p.value) same) (c.in_ok-progress.ensures.notes.notes ∙ ap (λ p. noting c.loop-rule.self.notes p.notes) same)
          c.in_ok-progress.ensures.gathered c.in_ok-progress.ensures.progress c.in-Stop.is (or_nothing a) is) c.finish.ensures.value)
          (on_ok c.finish.result _ (record {
            notes = c.finish.ensures.notes ∙ last_notes (keys_of c.args.within.path.now) c.args.algorithm (rule_part (g.L.LookUps.looks c.args.self.now.lender.held) c.args.self.now.lender.request c.args.within.definitions.now (keys_of c.args.within.path.now)) c.args.rules.now c.loop-rule.rule-index c.rule-item.result _ c.in_ok-progress.progress
                c.loop-rule.gathering c.next_rule.new.gathering c.args.self.now.notes c.loop-rule.self.notes c.next_rule.new.self.notes
                c.loop-rule-test.true c.rule-item.is c.loop-rule.invariant.going c.loop-rule.invariant.gathered (ap (λ p. p.value) same) (c.in_ok-progress.ensures.notes.notes ∙ ap (λ p. noting c.loop-rule.self.notes p.notes) same)
                c.in_ok-progress.ensures.gathered c.in_ok-progress.ensures.progress c.in-Stop.is;
            keeps = record { held = keeps.held; request = keeps.request };
          }));
    }

pub loop-rule-preserved : goal.loop-rule-preserved
loop-rule-preserved g c =
    let same = kept g.L.LookUps.looks (λ looks request. rule_part looks request c.args.within.definitions.now (keys_of c.args.within.path.now) c.rule-item.result) c.args.self.now c.loop-rule.self c.loop-rule.invariant.keeps in
    let keeps = keeps_on c.args.self.now c.loop-rule.self c.next_rule.new.self c.loop-rule.invariant.keeps c.in_ok-progress.ensures.notes.keeps in
    let next = next_child c.args.algorithm (rule_part (g.L.LookUps.looks c.args.self.now.lender.held) c.args.self.now.lender.request c.args.within.definitions.now (keys_of c.args.within.path.now)) c.args.rules.now c.loop-rule.rule-index c.rule-item.result _ c.in_ok-progress.progress
    c.loop-rule.gathering c.next_rule.new.gathering c.args.self.now.notes c.loop-rule.self.notes c.next_rule.new.self.notes
    c.loop-rule-test.true c.rule-item.is c.loop-rule.invariant.going c.loop-rule.invariant.gathered (ap (λ p. p.value) same) (c.in_ok-progress.ensures.notes.notes ∙ ap (λ p. noting c.loop-rule.self.notes p.notes) same)
    c.in_ok-progress.ensures.gathered c.in_ok-progress.ensures.progress c.in_default.is in
    record { going = next.going; gathered = next.gathered; keeps = keeps }

pub returns : goal.returns
returns g c =
    record {
      comes = comes or_nothing c.finish-2.result (rules_combined (g.L.LookUps.looks c.args.self.now.lender.held) c.args.self.now.lender.request c.args.within.definitions.now (keys_of c.args.within.path.now) c.args.algorithm c.args.rules.now) c.args.self.now _
          (IfOk-weaker c.finish-2.result _ _ (λ a is. all_children c.args.algorithm (rule_part (g.L.LookUps.looks c.args.self.now.lender.held) c.args.self.now.lender.request c.args.within.definitions.now (keys_of c.args.within.path.now)) c.args.rules.now c.loop-rule.rule-index c.args.self.now.notes c.loop-rule.self.notes c.loop-rule.invariant.going
          (omega (arith, c.loop-rule-test.false)) (keys_of c.args.within.path.now) c.loop-rule.gathering (or_nothing a) c.loop-rule.invariant.gathered is) c.finish-2.ensures.value)
          (on_ok c.finish-2.result _ (record {
            notes = c.finish-2.ensures.notes ∙ all_notes c.args.algorithm (rule_part (g.L.LookUps.looks c.args.self.now.lender.held) c.args.self.now.lender.request c.args.within.definitions.now (keys_of c.args.within.path.now)) c.args.rules.now c.loop-rule.rule-index c.args.self.now.notes c.loop-rule.self.notes c.loop-rule.invariant.going
                (omega (arith, c.loop-rule-test.false));
            keeps = record { held = c.loop-rule.invariant.keeps.held; request = c.loop-rule.invariant.keeps.request };
          }));
    }
