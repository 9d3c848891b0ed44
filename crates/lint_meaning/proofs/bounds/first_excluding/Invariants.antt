use Rattle.std.proofs.Common.{◌≡◌, drop}
use Rattle.lint_meaning.specs.Bounds.{first_excluding}
use Rattle.lint_meaning.proofs.bounds.first_excluding.Given as goal

abbrev pub invariant-loop-number : goal.invariant-loop-number
invariant-loop-number l = first_excluding l.number (drop l.number l.others) l.argument ≡ first_excluding 0 l.others l.argument
