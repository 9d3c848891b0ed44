use Rattle.std.proofs.Common.{◌≡◌, ◌++◌, codes, drop, map}
use Rattle.lint_meaning.specs.Expressions.{inside}
use Rattle.lint_meaning.specs.Places.{numbered}
use Rattle.lint_meaning.proofs.inside.+inside.Given as goal

abbrev pub invariant-tell_inside_each-loop-number : goal.invariant-tell_inside_each-loop-number
invariant-tell_inside_each-loop-number l =
    l.warnings ++ numbered (codes "Apply/Arguments") l.number (map inside (drop l.number l.arguments)) l.pointer
    ≡ l.fn.warnings ++ numbered (codes "Apply/Arguments") 0 (map inside l.arguments) l.pointer
