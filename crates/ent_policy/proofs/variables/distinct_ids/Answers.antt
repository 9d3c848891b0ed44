use Rattle.std.proofs.Common.{◌≡◌, false, true, arith}
use Rattle.ent_policy.specs.declared.expression.VariableDefinition.{VariableDefinition}
use Rattle.ent_policy.specs.proofs_only.Order.{has_id}
use Rattle.ent_policy.proofs.Ids.{gathered_more, gathered_twice}
use Rattle.ent_policy.proofs.variables.distinct_ids.Goals as goal

pub loop-definition-preserved : goal.loop-definition-preserved
loop-definition-preserved c =
    let new : has_id c.loop-definition.ids c.as_str.result.now ≡ false = grind (arith, c.in_ok-insert.ensures.added) in
    gathered_more (λ (d : VariableDefinition). d.id) c.args.definitions.now c.loop-definition.definition-index c.definition-item.result c.loop-definition-test.true c.definition-item.is
    c.loop-definition.ids c.as_str.result c.as_str.ensures c.loop-definition.invariant c.insert.new.self c.in_ok-insert.ensures.updates new

pub returns-then-not-branch : goal.returns-then-not-branch
returns-then-not-branch c =
    let old : has_id c.loop-definition.ids c.as_str.result.now ≡ true = grind (arith, c.in_ok-insert.ensures.added) in
    gathered_twice (λ (d : VariableDefinition). d.id) c.args.definitions.now c.loop-definition.definition-index c.definition-item.result c.loop-definition-test.true c.definition-item.is
    c.loop-definition.ids c.as_str.result c.as_str.ensures c.loop-definition.invariant old
