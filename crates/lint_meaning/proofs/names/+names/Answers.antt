use Rattle.ent_policy.specs.Variables.{variables}
use Rattle.lint_meaning.proofs.Named.{all_added, next_added, none_added, variable_added}
use Rattle.lint_meaning.proofs.names.+names.Goals as goal

pub put_names_of-loop-expression-init : goal.put_names_of-loop-expression-init
put_names_of-loop-expression-init t c = none_added c.args.names.now

pub put_names_of-loop-expression-preserved : goal.put_names_of-loop-expression-preserved
put_names_of-loop-expression-preserved t c =
    next_added variables c.args.expressions.now c.loop-expression.expression-index c.args.names.now c.expression-item.result c.loop-expression.names c.put_names.new.names c.loop-expression-test.true c.expression-item.is c.in_ok-put_names.ensures
    c.loop-expression.invariant

pub put_names_of-returns : goal.put_names_of-returns
put_names_of-returns t c = all_added variables c.args.expressions.now c.loop-expression.expression-index c.args.names.now c.loop-expression.names c.loop-expression-test.false c.loop-expression.invariant

pub put_names-returns-in_ok-insert-in-Variable : goal.put_names-returns-in_ok-insert-in-Variable
put_names-returns-in_ok-insert-in-Variable t c =
    variable_added c.args.expression.now c.in-Variable.id c.args.names.now c.insert.new.self c.as_str.result c.in-Variable.is c.as_str.ensures c.in_ok-insert-in-Variable.ensures.updates
