use Rattle.std.proofs.Common.{◌≡◌, drop}
use Rattle.std.specs.List.{fold}
use Rattle.ent_policy.specs.declared.document.Rule.{Rule}
use Rattle.lint_meaning.specs.Effects.{either, only, policy_effects}
use Rattle.lint_meaning.proofs.effects.policy_effects.Given as goal

abbrev pub invariant-loop-rule : goal.invariant-loop-rule
invariant-loop-rule l = fold (λ given (r : Rule). either given (only r.effect)) l.given (drop l.rule-index l.rules) ≡ policy_effects l.policy
