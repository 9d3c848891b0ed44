-- All that is told of a document, part by part, in the order of docs/POLICIES.md.
use Rattle.std.specs.Prelude.{ℕ, suc, List, [], ◌∷◌, ◌++◌, Bool, not, codes, map}
use Rattle.lint_meaning.specs.Copies.{overruling}
use Rattle.lint_meaning.specs.Effects.{both, may_give, policy_effects, set_effects}
use Rattle.lint_meaning.specs.Expressions.{condition_told, inside, nothing}
use Rattle.lint_meaning.specs.Names.{named}
use Rattle.lint_meaning.specs.Places.{Told, at_key, member, numbered, told_if, told_of}
use Rattle.lint_meaning.specs.Targets.{target_told}
use Rattle.lint_meaning.specs.declared.effects.Effects.{Effects}
use Rattle.lint_meaning.specs.declared.warning.Meaning.TheVariants as meaning
use Rattle.lint_meaning.specs.declared.warning.Warning.{Warning}
use Rattle.ent_policy.specs.Children.{as_child}
use Rattle.ent_policy.specs.Limits.{is_among}
use Rattle.ent_policy.specs.declared.document.Child.{Child}
use Rattle.ent_policy.specs.declared.document.Child.TheOpen.{Child-F, PolicySet-F}
use Rattle.ent_policy.specs.declared.document.Child.TheFolds.{fold-Child}
use Rattle.ent_policy.specs.declared.document.Policy.{Policy}
use Rattle.ent_policy.specs.declared.document.Rule.{Rule}
use Rattle.ent_policy.specs.declared.document.Tree.{Tree}
use Rattle.ent_policy.specs.declared.expression.VariableDefinition.{VariableDefinition}
use Rattle.ent_policy.specs.declared.given.AssignmentExpression.{AssignmentExpression}
use Rattle.ent_policy.specs.declared.given.GivenExpression.{GivenExpression}
use Rattle.ent_policy.specs.declared.given.GivenExpressions.{GivenExpressions}

-- ---- obligations and advice

-- of an assignment
abbrev pub assignment_told : AssignmentExpression → Told
assignment_told a pointer = inside a.expression (at_key pointer (codes "Expression"))

-- of an obligation or an advice of what gives these effects alone
abbrev pub given_expression_told : Effects → GivenExpression → Told
given_expression_told given g pointer = told_if (not (may_give given g.effect)) (meaning.Never g.effect) pointer
    ++ numbered (codes "AttributeAssignmentExpression") 0 (map assignment_told g.assignments) pointer

-- of both
abbrev pub given_told : Effects → GivenExpressions → Told
given_told given g pointer = numbered (codes "ObligationExpressions") 0 (map (given_expression_told given) g.obligations) pointer
    ++ numbered (codes "AdviceExpressions") 0 (map (given_expression_told given) g.advice) pointer

-- ---- policies

-- of a variable definition (section 5.23), by whether an expression of its policy names an id
abbrev pub definition_told : (List ℕ → Bool) → VariableDefinition → Told
definition_told is_named d pointer = told_if (not (is_named d.id)) meaning.Unused pointer ++ inside d.expression (at_key pointer (codes "Expression"))

-- of a rule by itself; which effects it gives its own warnings tell
abbrev pub rule_told : Rule → Told
rule_told r pointer = target_told r.target pointer ++ (condition_told r.condition pointer ++ given_told both r.given pointer)

-- of the rules of a policy, of which those from this number on are given last
abbrev pub rules_told : Policy → ℕ → List Rule → Told
rules_told p n [] pointer = []
rules_told p n (r ∷ others) pointer = told_of meaning.Overruled (overruling p.algorithm p.rules n r) (member pointer (codes "Rule") n)
    ++ (rule_told r (member pointer (codes "Rule") n) ++ rules_told p (suc n) others pointer)

-- of a policy
abbrev pub policy_told : Policy → Told
policy_told p pointer = numbered (codes "VariableDefinition") 0 (map (definition_told (is_among (named p))) p.variables) pointer
    ++ (target_told p.target pointer ++ (rules_told p 0 p.rules pointer ++ given_told both p.given pointer))

-- ---- sets

-- a child of a set, or a set: the effects that it may give, and what is told of it
pub record Seen : Type 0 where
  pub gives : Effects
  pub told : Told

-- one level of a child, with a set already seen; a reference may give both effects
abbrev pub child_step : Child-F Seen Seen → Seen
child_step (Child-F.Policy p) = record { gives = policy_effects p; told = λ pointer. policy_told p (at_key pointer (codes "Policy")) }
child_step (Child-F.Set s) = record { gives = s.gives; told = λ pointer. s.told (at_key pointer (codes "PolicySet")) }
child_step (Child-F.Reference reference) = record { gives = both; told = nothing }

-- one level of a set, with each child already seen
abbrev pub set_step : PolicySet-F Seen Seen → Seen
set_step s = record {
  gives = set_effects s.algorithm (map (λ c. c.gives) s.children);
  told = λ pointer. target_told s.target pointer ++ (numbered (codes "Children") 0 (map (λ c. c.told) s.children) pointer
      ++ given_told (set_effects s.algorithm (map (λ c. c.gives) s.children)) s.given pointer);
}

abbrev pub seen : Child → Seen
seen = fold-Child Seen Seen child_step set_step

-- all that is told of a document
abbrev pub warnings_of : Tree → List Warning
warnings_of document = (seen (as_child document)).told []
