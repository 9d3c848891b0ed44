use Rattle.std.proofs.Common.{sym, subst, ap, ◌∙◌}
use Rattle.ent_values.specs.declared.value.Value.{Value}
use Rattle.ent_functions.specs.Applied.{comes_true_with}
use Rattle.ent_functions.specs.Arguments.{comes_true}
use Rattle.ent_functions.specs.Higher.{with_value}
use Rattle.ent_functions.specs.proofs_only.Reading.{Takes}
use Rattle.ent_functions.proofs.Walks.{all_failed, all_on}
use Rattle.ent_functions.proofs.higher.all_hold_with.Goals as goal

pub holds-requires-clause-taken : goal.holds-requires-clause-taken
holds-requires-clause-taken c =
    subst (λ (value : Value). Takes c.args.function (with_value value c.args.arguments.now)) (sym c.value-item.is)
    (c.requires.taken c.loop-value.value-index c.value-item.result c.loop-value-test.true)

pub returns-then-not-holds : goal.returns-then-not-holds
returns-then-not-holds c =
    all_failed (comes_true_with c.args.function c.args.arguments.now) c.args.values.now c.loop-value.value-index c.value-item.result
    c.loop-value-test.true c.value-item.is c.loop-value.invariant (ap comes_true c.holds.ensures ∙ c.if-not-holds.true)

pub loop-value-preserved : goal.loop-value-preserved
loop-value-preserved c =
    all_on (comes_true_with c.args.function c.args.arguments.now) c.args.values.now c.loop-value.value-index c.value-item.result
    c.loop-value-test.true c.value-item.is c.loop-value.invariant (ap comes_true c.holds.ensures ∙ c.if-not-holds.false)
