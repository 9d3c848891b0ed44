use Rattle.std.proofs.Common.{◌≡◌, ◌++◌, codes, drop, map}
use Rattle.lint_meaning.specs.Places.{numbered}
use Rattle.lint_meaning.specs.Warnings.{assignment_told}
use Rattle.lint_meaning.proofs.walk.tell_assignments.Given as goal

abbrev pub invariant-loop-number : goal.invariant-loop-number
invariant-loop-number l =
    l.warnings ++ numbered (codes "AttributeAssignmentExpression") l.number (map assignment_told (drop l.number l.assignments)) l.pointer
    ≡ l.fn.warnings ++ numbered (codes "AttributeAssignmentExpression") 0 (map assignment_told l.assignments) l.pointer
