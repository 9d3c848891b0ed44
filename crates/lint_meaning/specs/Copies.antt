-- Rules with the target and the condition of another rule by which they never decide (appendix C).
use Rattle.std.specs.Prelude.{ℕ, List, [], ◌∷◌, Bool, true, false, not, ◌&&◌, ◌||◌, Option, Some, None, is_some, find, option_map, take}
use Rattle.ent_combine.specs.declared.outcome.RuleAlg.{RuleAlg}
use Rattle.ent_combine.specs.declared.outcome.RuleAlg.TheVariants as algorithm
use Rattle.ent_policy.specs.contracts.document.TargetPartialEq.TheImpl as targets
use Rattle.ent_policy.specs.contracts.expression.ExpressionPartialEq.TheImpl as expressions
use Rattle.ent_policy.specs.declared.document.AnyOf.{AnyOf}
use Rattle.ent_policy.specs.declared.document.Effect.{Effect}
use Rattle.ent_policy.specs.declared.document.Effect.TheVariants as effect
use Rattle.ent_policy.specs.declared.document.Rule.{Rule}
use Rattle.ent_policy.specs.declared.document.Target.{Target}
use Rattle.ent_policy.specs.declared.expression.Expression.{Expression}

-- what `==` of two targets, and of two expressions, answers
abbrev pub same_target : Target → Target → Bool
same_target = (targets.ghosts).eq

abbrev pub same_expression : Expression → Expression → Bool
same_expression = (expressions.ghosts).eq

-- two conditions are the same, or both are absent
abbrev pub same_condition : Option Expression → Option Expression → Bool
same_condition None None = true
same_condition (Some a) (Some b) = same_expression a b
same_condition _ _ = false

-- a target has members
abbrev pub has_members : List AnyOf → Bool
has_members [] = false
has_members (a ∷ others) = true

-- a rule asks for something: its target has members, or it has a condition
abbrev pub asks : Rule → Bool
asks r = has_members r.target.any_of || is_some r.condition

-- two rules apply to the same requests: both ask for the same
abbrev pub are_copies : Rule → Rule → Bool
are_copies a b = asks a && (same_target a.target b.target && same_condition a.condition b.condition)

-- an effect prevails where rules have both (appendix C.2 to C.7)
abbrev pub prevails : RuleAlg → Effect → Bool
prevails algorithm.DenyOverrides effect.Deny = true
prevails algorithm.OrderedDenyOverrides effect.Deny = true
prevails algorithm.PermitUnlessDeny effect.Deny = true
prevails algorithm.PermitOverrides effect.Permit = true
prevails algorithm.OrderedPermitOverrides effect.Permit = true
prevails algorithm.DenyUnlessPermit effect.Permit = true
prevails _ _ = false

-- of two rules that apply to the same requests the first has its way: it stands before the other under first-applicable
-- (appendix C.8), or its effect prevails and that of the other doesn't
abbrev pub has_its_way : RuleAlg → Effect → Effect → Bool
has_its_way algorithm.FirstApplicable a b = true
has_its_way combining a b = prevails combining a && not (prevails combining b)

-- a rule overrules another
abbrev pub overrules : RuleAlg → Rule → Rule → Bool
overrules combining rule other = has_its_way combining other.effect rule.effect && are_copies other rule

-- the rules that may overrule the one of that number: those before it under first-applicable, else all
abbrev pub rivals : RuleAlg → ℕ → List Rule → List Rule
rivals algorithm.FirstApplicable n rules = take n rules
rivals _ n rules = rules

-- the id of the first rule that overrules the one of that number
abbrev pub overruling : RuleAlg → List Rule → ℕ → Rule → Option (List ℕ)
overruling combining rules n rule = option_map (λ (r : Rule). r.id) (find (overrules combining rule) (rivals combining n rules))
