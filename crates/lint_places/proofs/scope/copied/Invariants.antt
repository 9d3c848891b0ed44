use Rattle.std.proofs.Common.{◌≡◌, take}
use Rattle.lint_places.proofs.scope.copied.Given as goal

abbrev pub invariant-loop-flag : goal.invariant-loop-flag
invariant-loop-flag l = l.all.items ≡ take l.flag-index l.flags
