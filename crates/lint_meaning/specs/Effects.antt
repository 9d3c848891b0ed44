-- The effects that policies and sets may give, and obligations and advice for one that never comes (section 7.18).
use Rattle.std.specs.Prelude.{List, Bool, true, false, ◌||◌}
use Rattle.std.specs.List.{fold}
use Rattle.ent_combine.specs.declared.outcome.PolicyAlg.{PolicyAlg}
use Rattle.ent_combine.specs.declared.outcome.PolicyAlg.TheVariants as policy
use Rattle.ent_combine.specs.declared.outcome.RuleAlg.{RuleAlg}
use Rattle.ent_combine.specs.declared.outcome.RuleAlg.TheVariants as algorithm
use Rattle.lint_meaning.specs.declared.effects.Effects.{Effects}
use Rattle.ent_policy.specs.declared.document.Effect.{Effect}
use Rattle.ent_policy.specs.declared.document.Effect.TheVariants as effect
use Rattle.ent_policy.specs.declared.document.Policy.{Policy}
use Rattle.ent_policy.specs.declared.document.Rule.{Rule}

-- neither effect, and both
abbrev pub neither : Effects
neither = record { permit = false; deny = false }

abbrev pub both : Effects
both = record { permit = true; deny = true }

-- those of two parts
abbrev pub either : Effects → Effects → Effects
either a b = record { permit = a.permit || b.permit; deny = a.deny || b.deny }

-- one effect alone
abbrev pub only : Effect → Effects
only effect.Permit = record { permit = true; deny = false }
only effect.Deny = record { permit = false; deny = true }

-- what an algorithm gives where nothing decides (appendix C.6 and C.7)
abbrev pub unless : RuleAlg → Effects
unless algorithm.DenyUnlessPermit = record { permit = false; deny = true }
unless algorithm.PermitUnlessDeny = record { permit = true; deny = false }
unless _ = neither

abbrev pub set_unless : PolicyAlg → Effects
set_unless (policy.Shared a) = unless a
set_unless policy.OnlyOne = neither

-- a policy gives no effect but those of its rules (section 7.11) and that of its algorithm
abbrev pub policy_effects : Policy → Effects
policy_effects p = fold (λ given (r : Rule). either given (only r.effect)) (unless p.algorithm) p.rules

-- a set gives no effect but those of its children and that of its algorithm
abbrev pub set_effects : PolicyAlg → List Effects → Effects
set_effects combining children = fold either (set_unless combining) children

-- an effect is among these
abbrev pub may_give : Effects → Effect → Bool
may_give e effect.Permit = e.permit
may_give e effect.Deny = e.deny
