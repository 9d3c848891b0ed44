use Rattle.std.proofs.Common.{◌≡◌, drop}
use Rattle.std.specs.List.{find}
use Rattle.lint_meaning.specs.Copies.{overrules}
use Rattle.lint_meaning.proofs.copies.first_overruling.Given as goal

abbrev pub invariant-loop-rival : goal.invariant-loop-rival
invariant-loop-rival l = find (overrules l.algorithm l.rule) (drop l.rival-index l.rivals) ≡ find (overrules l.algorithm l.rule) l.rivals
