use Rattle.std.proofs.Common.{◌∙◌, ap, sym}
use Rattle.lint_meaning.proofs.Levels.{application_put}
use Rattle.lint_meaning.proofs.inside.+inside.Goals as goal
use Rattle.ent_policy.specs.declared.expression.Expression.TheVariants as expression

pub tell_inside-returns-in_ok-tell_inside_each-in-Apply : goal.tell_inside-returns-in_ok-tell_inside_each-in-Apply
tell_inside-returns-in_ok-tell_inside_each-in-Apply t c =
    application_put c.args.expression.now c.in-Apply.function c.as_slice-arguments.result.now c.args.pointer.now c.args.warnings.now c.tell_application.new.warnings c.tell_inside_each.new.warnings
    (c.in-Apply.is ∙ ap (λ es. expression.Apply c.in-Apply.function es) (sym c.as_slice-arguments.ensures)) c.in_ok-tell_application-in-Apply.ensures c.in_ok-tell_inside_each-in-Apply.ensures
