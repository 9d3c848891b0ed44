use Rattle.std.proofs.Common.{◌≡◌, take}
use Rattle.lint_declared.proofs.known.with_sets.Given as goal

-- those so far
abbrev pub invariant-loop-attribute : goal.invariant-loop-attribute
invariant-loop-attribute l = l.all.items ≡ take l.attribute-index l.attributes
