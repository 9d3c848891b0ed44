use Rattle.std.proofs.Common.{◌≡◌, take}
use Rattle.lint_links.proofs.placed.copied.Given as goal

abbrev pub invariant-loop-number : goal.invariant-loop-number
invariant-loop-number l = l.all ≡ take l.number-index l.path
