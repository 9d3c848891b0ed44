use Rattle.std.proofs.Common.{◌≡◌, false, sym, true, arith}
use Rattle.ent_policy.specs.declared.document.Rule.{Rule}
use Rattle.ent_policy.specs.proofs_only.Order.{has_id}
use Rattle.ent_policy.proofs.Ids.{gathered_more, gathered_twice}
use Rattle.ent_policy.proofs.limits.has_double_rule.Goals as goal

pub loop-rule-preserved : goal.loop-rule-preserved
loop-rule-preserved c =
    let new : has_id c.loop-rule.seen c.as_str.result.now ≡ false = grind (arith, c.in_ok-insert.ensures.added) in
    gathered_more (λ (r : Rule). r.id) c.args.rules.now c.loop-rule.rule-index c.rule-item.result c.loop-rule-test.true c.rule-item.is
    c.loop-rule.seen c.as_str.result c.as_str.ensures c.loop-rule.invariant c.insert.new.self c.in_ok-insert.ensures.updates new

pub returns-then-not-branch : goal.returns-then-not-branch
returns-then-not-branch c =
    let old : has_id c.loop-rule.seen c.as_str.result.now ≡ true = grind (arith, c.in_ok-insert.ensures.added) in
    sym (gathered_twice (λ (r : Rule). r.id) c.args.rules.now c.loop-rule.rule-index c.rule-item.result c.loop-rule-test.true c.rule-item.is
    c.loop-rule.seen c.as_str.result c.as_str.ensures c.loop-rule.invariant old)
