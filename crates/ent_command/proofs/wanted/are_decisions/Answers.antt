use Rattle.std.proofs.Common.{◌∙◌, sym}
use Rattle.ent_command.proofs.SelectingLemmas.{decision_not, decision_on}
use Rattle.ent_command.proofs.wanted.are_decisions.Goals as goal

pub loop-value-preserved : goal.loop-value-preserved
loop-value-preserved g c =
    decision_on g.J.JsonTree.content c.args.values.now c.loop-value.value-index c.value-item.result _ c.loop-value-test.true c.value-item.is
    (sym c.is_decision.ensures ∙ c.if-not-is_decision.false) c.loop-value.invariant

pub returns-then-not-is_decision : goal.returns-then-not-is_decision
returns-then-not-is_decision g c =
    decision_not g.J.JsonTree.content c.args.values.now c.loop-value.value-index c.value-item.result _ c.loop-value-test.true c.value-item.is
    (sym c.is_decision.ensures ∙ c.if-not-is_decision.true) c.loop-value.invariant
