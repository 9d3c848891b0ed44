use Rattle.std.proofs.Common.{◌≡◌, ◌++◌, drop}
use Rattle.lint_meaning.specs.Bounds.{apart_from}
use Rattle.lint_meaning.proofs.bounds.tell_apart.Given as goal

abbrev pub invariant-loop-number : goal.invariant-loop-number
invariant-loop-number l =
    l.warnings ++ apart_from l.arguments l.number (drop l.number l.arguments) l.pointer ≡ l.fn.warnings ++ apart_from l.arguments 0 l.arguments l.pointer
