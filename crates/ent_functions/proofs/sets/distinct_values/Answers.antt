use Rattle.std.proofs.Common.{◌<◌, ◌++◌, length, take, sym, ap, subst, List, ◌∙◌}
use Rattle.ent_functions.specs.Arguments.{values_in, values_of}
use Rattle.ent_values.specs.declared.value.Value.{Value}
use Rattle.ent_functions.specs.proofs_only.Found.{AreFound}
use Rattle.ent_functions.proofs.Held.{held_more, values_more}
use Rattle.ent_functions.proofs.Memory.{filled, refused}
use Rattle.ent_functions.proofs.sets.distinct_values.Goals as goal

pub loop-argument-preserved : goal.loop-argument-preserved
loop-argument-preserved c =
    let before = values_of (take c.loop-argument.argument-index c.args.arguments.now) in
    record {
      value = subst (λ (values : List Value). AreFound values c.add_all_new.new.found c.add_all_new.new.seen)
          (ap (λ values. before ++ values) c.values_of.ensures.value
          ∙ sym (values_more c.args.arguments.now c.loop-argument.argument-index c.argument-item.result c.loop-argument-test.true c.argument-item.is))
          (c.in_ok-add_all_new.ensures.value before c.loop-argument.invariant.value);
      held = held_more c.args.arguments.now c.loop-argument.argument-index c.argument-item.result c.loop-argument-test.true c.argument-item.is
          c.loop-argument.invariant.held c.values_of.ensures.held;
    }

pub returns-in_err-add_all_new-clause-filled : goal.returns-in_err-add_all_new-clause-filled
returns-in_err-add_all_new-clause-filled c =
    let more : 0 < length c.values_of.result.now = c.in_err-add_all_new.ensures.filled in
    let some : 0 < length (values_in c.argument-item.result) = rw (← c.values_of.ensures.value) more in
    refused _ c.from_residual.result
    (filled c.args.arguments.now c.loop-argument.argument-index c.argument-item.result c.loop-argument-test.true c.argument-item.is some)
