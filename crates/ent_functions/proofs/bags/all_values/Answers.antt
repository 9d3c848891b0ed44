use Rattle.std.proofs.Common.{◌<◌, ◌++◌, length, take, sym, ap, ◌∙◌}
use Rattle.ent_functions.specs.Arguments.{values_in, values_of}
use Rattle.ent_functions.proofs.Held.{held_more, values_more}
use Rattle.ent_functions.proofs.Memory.{filled, refused}
use Rattle.ent_functions.proofs.bags.all_values.Goals as goal

pub loop-argument-preserved : goal.loop-argument-preserved
loop-argument-preserved c = record {
  value = c.in_ok-push_all.ensures.value
      ∙ ap (λ values. values ++ c.values_of.result.now) c.loop-argument.invariant.value
      ∙ ap (λ values. values_of (take c.loop-argument.argument-index c.args.arguments.now) ++ values) c.values_of.ensures.value
      ∙ sym (values_more c.args.arguments.now c.loop-argument.argument-index c.argument-item.result c.loop-argument-test.true c.argument-item.is);
  held = held_more c.args.arguments.now c.loop-argument.argument-index c.argument-item.result c.loop-argument-test.true c.argument-item.is
      c.loop-argument.invariant.held c.values_of.ensures.held;
}

pub returns-in_err-push_all-clause-filled : goal.returns-in_err-push_all-clause-filled
returns-in_err-push_all-clause-filled c =
    let more : 0 < length c.values_of.result.now = c.in_err-push_all.ensures.filled in
    let some : 0 < length (values_in c.argument-item.result) = rw (← c.values_of.ensures.value) more in
    refused _ c.from_residual.result
    (filled c.args.arguments.now c.loop-argument.argument-index c.argument-item.result c.loop-argument-test.true c.argument-item.is some)
