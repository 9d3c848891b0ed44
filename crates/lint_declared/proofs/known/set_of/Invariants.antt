use Rattle.std.proofs.Common.{take}
use Rattle.lint_declared.specs.proofs_only.Values.{ListsAsSet}
use Rattle.lint_declared.proofs.known.set_of.Given as goal

-- the set has the values so far
abbrev pub invariant-loop-value : goal.invariant-loop-value
invariant-loop-value l = ListsAsSet (take l.value-index l.values) l.set
