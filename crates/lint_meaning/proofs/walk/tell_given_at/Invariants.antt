use Rattle.std.proofs.Common.{◌≡◌, ◌++◌, drop, map}
use Rattle.lint_meaning.specs.Places.{numbered}
use Rattle.lint_meaning.specs.Warnings.{given_expression_told}
use Rattle.lint_meaning.proofs.walk.tell_given_at.Given as goal

abbrev pub invariant-loop-number : goal.invariant-loop-number
invariant-loop-number l =
    l.warnings ++ numbered l.key l.number (map (given_expression_told l.effects) (drop l.number l.given)) l.pointer
    ≡ l.fn.warnings ++ numbered l.key 0 (map (given_expression_told l.effects) l.given) l.pointer
