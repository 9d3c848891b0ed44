use Rattle.std.proofs.Common.{sym, subst, ap, ◌∙◌}
use Rattle.ent_values.specs.declared.value.Value.{Value}
use Rattle.ent_functions.specs.Applied.{comes_true_with}
use Rattle.ent_functions.specs.Arguments.{comes_true}
use Rattle.ent_functions.specs.Higher.{with_value}
use Rattle.ent_functions.specs.proofs_only.Reading.{Takes}
use Rattle.ent_functions.proofs.Walks.{any_found, any_on}
use Rattle.ent_functions.proofs.higher.any_holds_with.Goals as goal

pub holds-requires-clause-taken : goal.holds-requires-clause-taken
holds-requires-clause-taken c =
    subst (λ (value : Value). Takes c.args.function (with_value value c.args.arguments.now)) (sym c.value-item.is)
    (c.requires.taken c.loop-value.value-index c.value-item.result c.loop-value-test.true)

pub returns-then-holds : goal.returns-then-holds
returns-then-holds c =
    any_found (comes_true_with c.args.function c.args.arguments.now) c.args.values.now c.loop-value.value-index c.value-item.result
    c.loop-value-test.true c.value-item.is c.loop-value.invariant (ap comes_true c.holds.ensures ∙ c.if-holds.true)

pub loop-value-preserved : goal.loop-value-preserved
loop-value-preserved c =
    any_on (comes_true_with c.args.function c.args.arguments.now) c.args.values.now c.loop-value.value-index c.value-item.result
    c.loop-value-test.true c.value-item.is c.loop-value.invariant (ap comes_true c.holds.ensures ∙ c.if-holds.false)
