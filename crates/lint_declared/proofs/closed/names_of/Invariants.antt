use Rattle.std.proofs.Common.{◌≡◌}
use Rattle.lint_declared.specs.Closed.{names_of}
use Rattle.lint_declared.proofs.Closing.{shown}
use Rattle.lint_declared.proofs.closed.names_of.Given as goal

-- the names of the category so far
abbrev pub invariant-loop-name : goal.invariant-loop-name
invariant-loop-name l = l.values ≡ names_of l.category (shown l.yielded)
