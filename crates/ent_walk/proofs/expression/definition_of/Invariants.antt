use Rattle.std.proofs.Common.{◌≡◌, drop}
use Rattle.ent_policy.specs.Variables.{definition_of}
use Rattle.ent_walk.proofs.expression.definition_of.Given as goal

abbrev pub invariant-loop-definition : goal.invariant-loop-definition
invariant-loop-definition l = definition_of (drop l.definition-index l.definitions) l.id ≡ definition_of l.definitions l.id
