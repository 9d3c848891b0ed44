use Rattle.std.proofs.Common.{IfSome}
use Rattle.std.specs.List.{Contains}
use Rattle.lint_declared.proofs.nearest.nearest.Given as goal

-- the nearest so far is one of them
abbrev pub invariant-loop-attribute : goal.invariant-loop-attribute
invariant-loop-attribute l = IfSome l.nearest (λ a. Contains l.attributes a.now)
