use Rattle.std.proofs.lemmas.Result.{err_from_is_err_and}
use Rattle.lint_places.specs.Told.{variable_at, variables_of}
use Rattle.lint_places.proofs.ListLemmas.{ends, goes_on}
use Rattle.lint_places.proofs.scope.variables_of.Goals as goal

pub returns-in_err-variable : goal.returns-in_err-variable
unfolding variables_of
returns-in_err-variable g c =
    let p = err_from_is_err_and c.from_residual-in_err-variable.result c.from_residual-in_err-variable.ensures.1 in
    rw (p.1, p.2) (ends g.J.JsonTree.content (variable_at c.args.standing.now) c.args.definitions.now c.loop-number.number c.index-definitions-number.result c.loop-number.all
    c.in_err-variable.field-0.0 c.loop-number-test.true c.index-definitions-number.is c.in_err-variable.ensures c.loop-number.invariant)

pub loop-number-preserved : goal.loop-number-preserved
loop-number-preserved g c =
    rw c.in_ok-push.ensures.ok (goes_on g.J.JsonTree.content (variable_at c.args.standing.now) c.args.definitions.now c.loop-number.number c.index-definitions-number.result c.loop-number.all
    c.in_ok-variable.field-0 c.loop-number-test.true c.index-definitions-number.is c.in_ok-variable.ensures c.loop-number.invariant)
