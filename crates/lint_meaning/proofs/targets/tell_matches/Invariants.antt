use Rattle.std.proofs.Common.{◌≡◌, ◌++◌, codes, drop, map}
use Rattle.lint_meaning.specs.Places.{numbered}
use Rattle.lint_meaning.specs.Targets.{match_told}
use Rattle.lint_meaning.proofs.targets.tell_matches.Given as goal

abbrev pub invariant-loop-number : goal.invariant-loop-number
invariant-loop-number l =
    l.warnings ++ numbered (codes "Match") l.number (map match_told (drop l.number l.matches)) l.pointer ≡ l.fn.warnings ++ numbered (codes "Match") 0 (map match_told l.matches) l.pointer
