use Rattle.std.proofs.Common.{sym, subst, ◌∙◌}
use Rattle.memo_plan.specs.Heard.{came_of_rule, decides_part, heard}
use Rattle.ent_walk.specs.Rule.{condition_part}
use Rattle.ent_walk.specs.Target.{target_part}
use Rattle.memo_replay.specs.proofs_only.Stands.{Passes}
use Rattle.memo_replay.proofs.Passed.{rule_true, rule_unmatched, rule_untrue}
use Rattle.memo_replay.proofs.over.Over.pass_rule.Goals as goal
use Rattle.memo_replay.proofs.over.Over.pass_rule.Goals.{else-is_match-via-then-is_match+in_ok-pass-2+else-is_true, else-is_match-via-else-is_match}

pub returns-in_ok-pass-3-clause-passes : goal.returns-in_ok-pass-3-clause-passes
returns-in_ok-pass-3-clause-passes g c w definitions here r =
    rule_true c.args.self.now c.args.state.now c.pass.new.state c.pass-then-is_match.new.state c.pass-then-is_true.new.state
    c.in_ok-pass.field-0.now c.in_ok-pass-2.field-0.now c.in_ok-pass-3.field-0.now
    (heard (target_part w.looks w.request r.target)) (heard (condition_part w.looks w.request definitions r.condition)) (heard (decides_part w.looks w.request definitions here r))
    c.in_ok-pass.ensures.next (λ t k e. sym c.if-is_match.true ∙ c.is_match.ensures t k e)
    c.in_ok-pass-2.ensures.next (λ t k e. sym c.if-is_true.true ∙ c.is_true.ensures t k e)
    c.in_ok-pass-3.ensures.next

pub returns-else-is_match-clause-passes : goal.returns-else-is_match-clause-passes
returns-else-is_match-clause-passes g c w definitions here r =
    let t = heard (target_part w.looks w.request r.target) in
    let k = heard (condition_part w.looks w.request definitions r.condition) in
    let a = heard (decides_part w.looks w.request definitions here r) in
    elim c.else-is_match.branch [
      | else-is_match-via-then-is_match+in_ok-pass-2+else-is_true x ↦
          subst (Passes c.args.self.now (came_of_rule w.looks w.request definitions here r) c.args.state.now) (sym x.state-is)
          (rule_untrue c.args.self.now c.args.state.now c.pass.new.state x.pass-then-is_match.new.state c.in_ok-pass.field-0.now x.in_ok-pass-2.field-0.now t k a
          c.in_ok-pass.ensures.next (λ h n e. sym x.if-is_match.true ∙ c.is_match.ensures h n e)
          x.in_ok-pass-2.ensures.next (λ h n e. sym x.if-is_true.false ∙ x.is_true.ensures h n e))
      | else-is_match-via-else-is_match x ↦
          subst (Passes c.args.self.now (came_of_rule w.looks w.request definitions here r) c.args.state.now) (sym x.state-is)
          (rule_unmatched c.args.self.now c.args.state.now c.pass.new.state c.in_ok-pass.field-0.now t k a
          c.in_ok-pass.ensures.next (λ h n e. sym x.if-is_match.false ∙ c.is_match.ensures h n e))
    ]
