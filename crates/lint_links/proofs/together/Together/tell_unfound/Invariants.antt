use Rattle.std.proofs.Common.{◌≡◌, ◌+◌, length}
use Rattle.lint_links.proofs.together.Together.tell_unfound.Given as goal

abbrev pub invariant-loop-placed : goal.invariant-loop-placed
invariant-loop-placed l = length l.lines.items ≡ length l.fn.lines.items + l.placed-index
