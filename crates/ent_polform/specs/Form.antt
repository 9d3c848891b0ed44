-- The JSON form of policies and policy sets: which document, as read, a JSON value spells. Every other key or kind of value is a
-- fault of form.
use Rattle.std.specs.Prelude.{ℕ, ◌&&◌, Bool, List, [], ◌∷◌, if◌then◌else◌, Option, Some, None, option_and_then, Result, Ok, Err, codes, bytes_eq}
use Rattle.serde_json.specs.Data.{Data}
use Rattle.serde_json.specs.Find.{get}
use Rattle.ent_policy.specs.declared.fault.DocFault.{DocFault}
use Rattle.ent_policy.specs.declared.fault.DocFault.TheVariants as fault
use Rattle.ent_policy.specs.declared.key.Kind.{Kind}
use Rattle.ent_policy.specs.declared.raw.RawChild.{RawChild}
use Rattle.ent_policy.specs.declared.raw.RawChild.TheVariants as child
use Rattle.ent_policy.specs.declared.raw.RawDocument.{RawDocument}
use Rattle.ent_policy.specs.declared.raw.RawDocument.TheVariants as raw
use Rattle.ent_policy.specs.declared.raw.RawPolicy.{RawPolicy}
use Rattle.ent_policy.specs.declared.raw.RawPolicySet.{RawPolicySet}
use Rattle.ent_policy.specs.declared.raw.RawRule.{RawRule}
use Rattle.ent_policy.specs.declared.raw.RawVariableDefinition.{RawVariableDefinition}
use Rattle.ent_policy.specs.declared.document.Tree.{Tree}
use Rattle.ent_policy.specs.Check.{checked}
use Rattle.ent_json.specs.Objects.{has_only, one_member, text_at, text_or_absent, list_at}
use Rattle.ent_polform.specs.Objects.{◌>>=◌, list_by}
use Rattle.ent_polform.specs.Reading.{part, formed, maybe, nested}
use Rattle.ent_polform.specs.Expressions.{expression_of}
use Rattle.ent_polform.specs.Given.{effect_of, given_of}
use Rattle.ent_polform.specs.Reference.{kind_of, reference_by}
use Rattle.ent_polform.specs.Targets.{target_or_empty}

-- ---- rules and policies

-- a VariableDefinition (section 5.23)
unfoldable pub definition_of : Data → Result RawVariableDefinition DocFault
definition_of d = formed (has_only (codes "Expression" ∷ codes "VariableId" ∷ []) d) (do
  id ← part (text_at (codes "VariableId") d)
  expression ← part (get (codes "Expression") d) >>= expression_of
  Ok (record { id = id; expression = expression }))

-- a Rule (section 5.21). Its description is not kept
unfoldable pub rule_of : Data → Result RawRule DocFault
rule_of d = formed (has_only (codes "AdviceExpressions" ∷ codes "Condition" ∷ codes "Description" ∷ codes "Effect" ∷ codes "ObligationExpressions" ∷ codes "RuleId" ∷ codes "Target" ∷ []) d && text_or_absent (codes "Description") d) (do
  id ← part (text_at (codes "RuleId") d)
  effect ← part (option_and_then effect_of (text_at (codes "Effect") d))
  target ← target_or_empty (get (codes "Target") d)
  condition ← maybe expression_of (get (codes "Condition") d)
  given ← given_of d
  Ok (record { id = id; effect = effect; target = target; condition = condition; given = given }))

-- an object with no other keys than those of a Policy, whose description is a text if it is there
abbrev pub has_policy_keys : Data → Bool
has_policy_keys d =
    has_only (codes "AdviceExpressions" ∷ codes "Description" ∷ codes "ObligationExpressions" ∷ codes "PolicyId" ∷ codes "Rule" ∷ codes "RuleCombiningAlgId"
    ∷ codes "Target" ∷ codes "VariableDefinition" ∷ codes "Version" ∷ []) d
    && text_or_absent (codes "Description") d

-- a Policy (section 5.14). Its description is not kept
unfoldable pub policy_of : Data → Result RawPolicy DocFault
policy_of d = formed (has_policy_keys d) (do
  id ← part (text_at (codes "PolicyId") d)
  version ← part (text_at (codes "Version") d)
  algorithm ← part (text_at (codes "RuleCombiningAlgId") d)
  target ← target_or_empty (get (codes "Target") d)
  variables ← list_by fault.Form definition_of (list_at (codes "VariableDefinition") d)
  rules ← list_by fault.Form rule_of (list_at (codes "Rule") d)
  given ← given_of d
  Ok (record { id = id; version = version; algorithm = algorithm; target = target; variables = variables; rules = rules; given = given }))

-- ---- policy sets and documents

-- an object with no other keys than those of a PolicySet, whose description is a text if it is there
abbrev pub has_set_keys : Data → Bool
has_set_keys d =
    has_only (codes "AdviceExpressions" ∷ codes "Children" ∷ codes "Description" ∷ codes "ObligationExpressions" ∷ codes "PolicyCombiningAlgId" ∷ codes "PolicySetId"
    ∷ codes "Target" ∷ codes "Version" ∷ []) d
    && text_or_absent (codes "Description") d

-- a PolicySet (section 5.1) whose children f reads. Its description is not kept
unfoldable pub set_by : (Data → Result RawChild DocFault) → Data → Result RawPolicySet DocFault
set_by f d = formed (has_set_keys d) (do
  id ← part (text_at (codes "PolicySetId") d)
  version ← part (text_at (codes "Version") d)
  algorithm ← part (text_at (codes "PolicyCombiningAlgId") d)
  target ← target_or_empty (get (codes "Target") d)
  children ← list_by fault.Form f (list_at (codes "Children") d)
  given ← given_of d
  Ok (record { id = id; version = version; algorithm = algorithm; target = target; children = children; given = given }))

-- the document of that key, any children read by f
unfoldable pub raw_named : (Data → Result RawChild DocFault) → List ℕ → Data → Result RawDocument DocFault
raw_named f key d =
    if bytes_eq key (codes "Policy") then (policy_of d >>= λ p. Ok (raw.Policy p))
    else (if bytes_eq key (codes "PolicySet") then (set_by f d >>= λ s. Ok (raw.Set s)) else Err fault.Form)

-- a document as a child of a set
abbrev pub as_child : RawDocument → RawChild
as_child (raw.Policy p) = child.Policy p
as_child (raw.Set s) = child.Set s

-- the child of that key: a reference, if the key is one's, or else a document
abbrev pub child_named : (Data → Result RawChild DocFault) → List ℕ → Data → Option Kind → Result RawChild DocFault
child_named f key d (Some kind) = reference_by kind d >>= λ r. Ok (child.Reference r)
child_named f key d None = raw_named f key d >>= λ document. Ok (as_child document)

-- one level of a child: an object with one key, any children inside read by f
abbrev pub child_by : (Data → Result RawChild DocFault) → Data → Result RawChild DocFault
child_by f d = part (one_member d) >>= λ m. child_named f m.0 m.1 (kind_of m.0)

-- a child of a set: a document or a reference
unfoldable pub child_of : Data → Result RawChild DocFault
child_of d = nested child_by d

-- what is read first of a document of that key: its id, where it has the keys of one
unfoldable pub id_named : List ℕ → Data → Result (List ℕ) DocFault
id_named key d =
    if bytes_eq key (codes "Policy") then formed (has_policy_keys d) (part (text_at (codes "PolicyId") d))
    else (if bytes_eq key (codes "PolicySet") then formed (has_set_keys d) (part (text_at (codes "PolicySetId") d)) else Err fault.Form)

-- the id of the document that a JSON value spells, or that its form is wrong up to there
unfoldable pub id_of : Data → Result (List ℕ) DocFault
id_of d = part (one_member d) >>= λ m. id_named m.0 m.1

-- the document that a JSON value spells, or that its form is wrong
unfoldable pub raw_of : Data → Result RawDocument DocFault
raw_of d = part (one_member d) >>= λ m. raw_named child_of m.0 m.1

-- the document that a JSON value spells, or its first fault, one of form before every other
unfoldable pub document_of : Data → Result Tree DocFault
document_of d = raw_of d >>= checked
