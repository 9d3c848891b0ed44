use Rattle.std.proofs.Common.{◌≡◌, ◌++◌, codes, drop, map}
use Rattle.lint_meaning.specs.Places.{numbered}
use Rattle.lint_meaning.specs.Targets.{all_of_told}
use Rattle.lint_meaning.proofs.targets.tell_all_of.Given as goal

abbrev pub invariant-loop-number : goal.invariant-loop-number
invariant-loop-number l =
    l.warnings ++ numbered (codes "AllOf") l.number (map all_of_told (drop l.number l.all_of)) l.pointer ≡ l.fn.warnings ++ numbered (codes "AllOf") 0 (map all_of_told l.all_of) l.pointer
