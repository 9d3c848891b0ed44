use Rattle.std.proofs.Common.{◌≡◌, map, take}
use Rattle.ent_policy.specs.First.{first_of}
use Rattle.ent_policy.specs.Limits.{expression_fault}
use Rattle.ent_policy.proofs.limits.+expression.Given as goal

abbrev pub invariant-argument_fault-loop-argument : goal.invariant-argument_fault-loop-argument
invariant-argument_fault-loop-argument l = l.first ≡ first_of (map expression_fault (take l.argument-index l.arguments))
