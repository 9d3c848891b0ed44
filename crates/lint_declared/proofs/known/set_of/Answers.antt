use Rattle.std.proofs.Common.{◌∙◌}
use Rattle.lint_declared.proofs.Values.{values_more}
use Rattle.lint_declared.proofs.known.set_of.Goals as goal

pub loop-value-preserved : goal.loop-value-preserved
loop-value-preserved c =
    values_more c.args.values.now c.loop-value.value-index c.loop-value.set c.insert.new.self c.in_ok-copy.field-0 c.value-item.result
    c.loop-value-test.true (c.in_ok-copy.ensures.value ∙ c.value-item.is) c.loop-value.invariant c.in_ok-insert.ensures.updates
