use Rattle.std.proofs.Common.{◌≡◌, ◌++◌, codes, drop, map}
use Rattle.lint_meaning.specs.Places.{numbered}
use Rattle.lint_meaning.specs.Targets.{any_of_told}
use Rattle.lint_meaning.proofs.targets.tell_target.Given as goal

abbrev pub invariant-loop-number : goal.invariant-loop-number
invariant-loop-number l =
    l.warnings ++ numbered (codes "Target/AnyOf") l.number (map any_of_told (drop l.number l.any_of)) l.pointer ≡ l.fn.warnings ++ numbered (codes "Target/AnyOf") 0 (map any_of_told l.target.any_of) l.pointer
