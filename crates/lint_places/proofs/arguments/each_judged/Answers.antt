use Rattle.ent_policy.specs.Limits.{length_fault}
use Rattle.lint_places.specs.Told.{argument_told}
use Rattle.lint_places.specs.Views.{scope_of}
use Rattle.lint_places.proofs.ArgumentLemmas.{first_from, first_goes_on, found_is}
use Rattle.lint_places.proofs.arguments.each_judged.Goals as goal

pub loop-value-preserved : goal.loop-value-preserved
loop-value-preserved g c =
    let is = found_is _ c.argument.result (argument_told (scope_of g.J.JsonTree.content c.args.scope.now) (g.J.JsonTree.content c.value-item.result)) c.in_ok-found.field-0
    c.argument.ensures c.in_ok-found.ensures in
    rw (c.earlier-first.ensures, is) (first_goes_on g.J.JsonTree.content (argument_told (scope_of g.J.JsonTree.content c.args.scope.now)) c.args.values.now c.loop-value.first
    c.loop-value.value-index c.value-item.result
    (first_from g.J.JsonTree.content (argument_told (scope_of g.J.JsonTree.content c.args.scope.now)) c.args.values.now (length_fault c.args.values.now) 0)
    c.loop-value-test.true c.value-item.is c.loop-value.invariant)
