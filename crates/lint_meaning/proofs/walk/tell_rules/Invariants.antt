use Rattle.std.proofs.Common.{◌≡◌, ◌++◌, drop}
use Rattle.lint_meaning.specs.Warnings.{rules_told}
use Rattle.lint_meaning.proofs.walk.tell_rules.Given as goal

abbrev pub invariant-loop-number : goal.invariant-loop-number
invariant-loop-number l =
    l.warnings ++ rules_told l.policy l.number (drop l.number l.rules) l.pointer ≡ l.fn.warnings ++ rules_told l.policy 0 l.policy.rules l.pointer
