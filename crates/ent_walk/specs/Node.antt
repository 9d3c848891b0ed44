-- What a policy, a policy set or a reference comes to (sections 7.12, 7.13 and 7.15).
use Rattle.std.specs.Prelude.{ℕ, zero, suc, List, [], ◌∷◌, ◌++◌, map, Option, Some, None}
use Rattle.ent_combine.specs.declared.outcome.RuleAlg.{RuleAlg}
use Rattle.ent_combine.specs.declared.outcome.PolicyAlg.{PolicyAlg}
use Rattle.ent_combine.specs.declared.outcome.PolicyAlg.TheVariants.{Shared, OnlyOne}
use Rattle.ent_policy.specs.declared.document.Policy.{Policy}
use Rattle.ent_policy.specs.declared.document.Rule.{Rule}
use Rattle.ent_policy.specs.declared.document.Tree.{Tree}
use Rattle.ent_policy.specs.declared.document.Child.{Child}
use Rattle.ent_policy.specs.declared.document.Child.TheFolds.{fold-Child}
use Rattle.ent_policy.specs.declared.document.Child.TheOpen.{Child-F, PolicySet-F}
use Rattle.ent_policy.specs.Children.{as_child}
use Rattle.ent_policy.specs.declared.expression.VariableDefinition.{VariableDefinition}
use Rattle.ent_policy.specs.declared.key.Kind.TheVariants as kind
use Rattle.ent_policy.specs.declared.key.DocKey.{DocKey}
use Rattle.ent_policy.specs.declared.key.Reference.{Reference}
use Rattle.ent_request.specs.declared.answer.Answer.{Answer}
use Rattle.ent_request.specs.declared.answer.Status.TheVariants.{ProcessingError}
use Rattle.ent_request.specs.declared.cause.What.{What}
use Rattle.ent_request.specs.declared.cause.What.TheVariants.{TooFar, Unfound}
use Rattle.ent_request.specs.declared.question.Question.{Question}
use Rattle.ent_request.specs.declared.question.Question.TheVariants.{Ref}
use Rattle.ent_request.specs.declared.request.Request.{Request}
use Rattle.ent_walk.specs.declared.target.Targeted.{Targeted}
use Rattle.ent_walk.specs.declared.target.Targeted.TheVariants.{Match, NoMatch, Indeterminate}
use Rattle.ent_walk.specs.Given.{finished}
use Rattle.ent_walk.specs.Judged.{has_failed, judgement_of, stops, with_target}
use Rattle.ent_request.specs.Plain.{nothing, unresolved}
use Rattle.ent_request.specs.Looks.{Looks}
use Rattle.ent_walk.specs.Only.{only_one}
use Rattle.ent_request.specs.Part.{Part, after_look, and_then, mapped, settled, that_fails, whole, within}
use Rattle.ent_request.specs.Part.{without_look}
use Rattle.ent_walk.specs.Rule.{rule_part}
use Rattle.ent_walk.specs.Target.{target_part}

-- children of the element at the end of a path, up to the first that fixes the decision
abbrev pub combined : List DocKey → RuleAlg → List (Part Answer) → Part Answer
combined here algorithm children = whole (stops algorithm) (judgement_of here algorithm) children

-- the children of an element are evaluated unless its target doesn't match, and behind them what it gives itself, if it matches
abbrev pub children_after : (Answer → Part Answer) → Part Answer → Targeted → Part Answer
children_after own children NoMatch = without_look nothing
children_after own children Match = and_then children own
children_after own children (Indeterminate status) = mapped (with_target (Indeterminate status)) children

-- an element with a key, a target and children
abbrev pub element : DocKey → Part Targeted → Part Answer → (Answer → Part Answer) → Part Answer
element key target children own =
    and_then (within key target) (λ targeted. within key (children_after own (settled has_failed children) targeted))

-- the key of a policy
abbrev pub policy_key : Policy → DocKey
policy_key policy = record { kind = kind.Policy; id = policy.id; version = policy.version }

-- the key of a set
abbrev pub set_key : List ℕ → List ℕ → DocKey
set_key id version = record { kind = kind.PolicySet; id = id; version = version }

-- rules among definitions, where `here` leads from the root to their policy
abbrev pub rules_combined : Looks → Request → List VariableDefinition → List DocKey → RuleAlg → List Rule → Part Answer
rules_combined looks request definitions here algorithm rules = combined here algorithm (map (rule_part looks request definitions here) rules)

-- the rules of a policy, where `here` leads from the root to the policy
abbrev pub rules_part : Looks → Request → List DocKey → Policy → Part Answer
rules_part looks request here policy = rules_combined looks request policy.variables here policy.algorithm policy.rules

-- the rules of a policy, where `path` leads from the root to what the policy stands in
abbrev pub policy_rules : Looks → Request → List DocKey → Policy → Part Answer
policy_rules looks request path policy =
    rules_part looks request (path ++ policy_key policy ∷ []) policy

-- a policy, where `path` leads from the root to what it stands in
abbrev pub policy_part : Looks → Request → List DocKey → Policy → Part Answer
policy_part looks request path policy =
    element (policy_key policy) (target_part looks request policy.target) (policy_rules looks request path policy)
    (finished looks request policy.variables policy.given)

-- a policy, a set or a reference: its target, and what it comes to by the path from the root to what it stands in
pub record Node : Type 0 where
  pub target : Part Targeted
  pub answer : List DocKey → Part Answer

-- the children of a set, where `here` leads from the root to the set
abbrev pub children_part : PolicyAlg → List Node → List DocKey → Part Answer
children_part (Shared algorithm) children here =
    combined here algorithm (map (λ (child : Node). settled has_failed (child.answer here)) children)
children_part OnlyOne children here = only_one (map (λ (child : Node). child.target) children) (map (λ (child : Node). child.answer here) children)

-- one level of a child, where `refer` gives what a reference comes to, with a set already seen
abbrev pub child_step : Looks → Request → (Reference → Node) → Child-F Node Node → Node
child_step looks request refer (Child-F.Policy policy) = record {
  target = within (policy_key policy) (target_part looks request policy.target);
  answer = λ path. policy_part looks request path policy;
}
child_step looks request refer (Child-F.Set set) = set
child_step looks request refer (Child-F.Reference reference) = refer reference

-- one level of a set, with its children already seen
abbrev pub set_step : Looks → Request → PolicySet-F Node Node → Node
set_step looks request set = record {
  target = within (set_key set.id set.version) (target_part looks request set.target);
  answer = λ path. element (set_key set.id set.version) (target_part looks request set.target)
      (children_part set.algorithm set.children (path ++ set_key set.id set.version ∷ []))
      (finished looks request [] set.given);
}

-- a child, where `refer` gives what a reference comes to
abbrev pub node_with : Looks → Request → (Reference → Node) → Child → Node
node_with looks request refer = fold-Child Node Node (child_step looks request refer) (set_step looks request)

-- ---- references

-- a reference that isn't resolved: its target is Indeterminate, and so is its decision (section 7.15)
abbrev pub unresolved_node : What → Node
unresolved_node what = record {
  target = that_fails what (Indeterminate ProcessingError);
  answer = λ path. that_fails what unresolved;
}

-- the document that a reference names, if there is one
abbrev pub found_node : Reference → (Child → Node) → Option Tree → Node
found_node reference node None = unresolved_node (Unfound reference)
found_node reference node (Some t) = node (as_child t)

-- a node before which one question is asked
abbrev pub node_after_look : Question → Node → Node
node_after_look question n = record {
  target = after_look question n.target;
  answer = λ path. after_look question (n.answer path);
}

-- a reference that is followed, where `refer` gives what one in its document comes to: it adds nothing to the path, its document does
abbrev pub followed : Looks → Request → (Reference → Node) → Reference → Node
followed looks request refer reference =
    node_after_look (Ref reference) (found_node reference (node_with looks request refer) (looks.document reference))

-- a reference, where this many may be followed on the way down from here: with none left nothing is looked up
abbrev pub refer : Looks → Request → ℕ → Reference → Node
refer looks request zero reference = unresolved_node (TooFar reference)
refer looks request (suc hops) reference = followed looks request (refer looks request hops) reference
