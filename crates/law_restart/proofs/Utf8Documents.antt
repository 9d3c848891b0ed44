-- A document that is read of UTF-8 JSON is written as such.
use Rattle.std.proofs.Common.{◌≡◌, ℕ, zero, suc, List, [], ◌∷◌, map, Bool, Option, Some, None, Result, Ok, Err, codes, refl, sym, subst, IsUtf8}
use Rattle.std.specs.Prelude.{if◌then◌else◌, true, false, option_and_then, option_map}
use Rattle.std.specs.List.{AllByRecursion}
use Rattle.json.proofs.Printed.Utf8.{IsUtf8-are_ascii}
use Rattle.serde_json.specs.Data as json
use Rattle.serde_json.specs.Data.{Data, Items, depth, put}
use Rattle.serde_json.specs.Find.{get}
use Rattle.ent_combine.proofs.Naming.{policy_ids_read_back, rule_ids_read_back}
use Rattle.ent_combine.specs.Identifiers.{policy_algorithm_of, policy_id_of, rule_algorithm_of, rule_id_of}
use Rattle.ent_combine.specs.declared.outcome.PolicyAlg.TheVariants.{OnlyOne}
use Rattle.ent_combine.specs.declared.outcome.RuleAlg.TheVariants.{DenyOverrides}
use Rattle.ent_policy.proofs.Wholes.{ReadOf, passes}
use Rattle.ent_policy.proofs.WhatIsRead.{set_is_read}
use Rattle.ent_policy.specs.Check.{checked}
use Rattle.ent_policy.specs.Names.{is_bad_name, name_of}
use Rattle.ent_policy.specs.Patterns.{part_text}
use Rattle.ent_policy.specs.Reading as reading
use Rattle.ent_policy.specs.Reading.{assignment_read, child_read, constraints_read, definition_read, document_read, each_read, expression_read, given_expression_read, given_read, known, maybe_read, pattern_read, policy_algorithm_read, policy_read, reference_read, rule_algorithm_read, rule_read, set_read, target_read, version_read}
use Rattle.ent_policy.specs.Versions.{version_text}
use Rattle.ent_policy.specs.declared.document.Child.{Child}
use Rattle.ent_policy.specs.declared.document.Child.TheFolds.{fold-roll-Child}
use Rattle.ent_policy.specs.declared.document.Child.TheOpen.{Child-F}
use Rattle.ent_policy.specs.declared.document.Child.TheVariants as children
use Rattle.ent_policy.specs.declared.document.Effect.{Effect}
use Rattle.ent_policy.specs.declared.document.Effect.TheVariants.{Permit, Deny}
use Rattle.ent_policy.specs.declared.document.PolicySet.{PolicySet}
use Rattle.ent_policy.specs.declared.document.Tree.{Tree}
use Rattle.ent_policy.specs.declared.document.Tree.TheVariants as trees
use Rattle.ent_policy.specs.declared.fault.DocFault.{DocFault}
use Rattle.ent_policy.specs.declared.fault.DocFault.TheVariants as faults
use Rattle.ent_policy.specs.declared.key.Kind.{Kind}
use Rattle.ent_policy.specs.declared.key.Kind.TheVariants as kinds
use Rattle.ent_policy.specs.declared.key.Reference.{Reference}
use Rattle.ent_policy.specs.declared.pattern.PatternPart.{PatternPart}
use Rattle.ent_policy.specs.declared.pattern.PatternPart.TheVariants.{Number, Any, More}
use Rattle.ent_policy.specs.declared.raw.RawAssignment.{RawAssignment}
use Rattle.ent_policy.specs.declared.raw.RawChild.{RawChild}
use Rattle.ent_policy.specs.declared.raw.RawChild.TheFolds.{fold-roll-RawChild}
use Rattle.ent_policy.specs.declared.raw.RawChild.TheOpen.{RawChild-F}
use Rattle.ent_policy.specs.declared.raw.RawChild.TheVariants as raw_children
use Rattle.ent_policy.specs.declared.raw.RawDocument.{RawDocument}
use Rattle.ent_policy.specs.declared.raw.RawExpression.{RawExpression}
use Rattle.ent_policy.specs.declared.raw.RawGivenExpression.{RawGivenExpression}
use Rattle.ent_policy.specs.declared.raw.RawGivenExpressions.{RawGivenExpressions}
use Rattle.ent_policy.specs.declared.raw.RawPolicy.{RawPolicy}
use Rattle.ent_policy.specs.declared.raw.RawPolicySet.{RawPolicySet}
use Rattle.ent_policy.specs.declared.raw.RawReference.{RawReference}
use Rattle.ent_policy.specs.declared.raw.RawRule.{RawRule}
use Rattle.ent_policy.specs.declared.raw.RawVariableDefinition.{RawVariableDefinition}
use Rattle.ent_json.specs.Members.{filled_list, only_member}
use Rattle.ent_json.specs.Objects.{list_at, one_member, text_at}
use Rattle.ent_polform.specs.Expressions.{expression_of}
use Rattle.ent_polform.specs.Form.{child_by, child_named, child_of, definition_of, document_of, policy_of, raw_named, raw_of, rule_of, set_by}
use Rattle.ent_polform.specs.Given.{assignment_of, effect_of, given_by, given_of}
use Rattle.ent_polform.specs.Objects.{◌>>=◌, list_by}
use Rattle.ent_polform.specs.Reading.{maybe, part, text_of, within}
use Rattle.ent_polform.specs.Reference.{kind_of, reference_by, reference_key}
use Rattle.ent_polform.specs.Targets.{target_or_empty}
use Rattle.ent_polform.specs.Written.{advice_written, assignment_written, child_step, child_written, definition_written, effect_word, expression_written, given_written, obligations_written, pattern_written, policy_written, reference_body, reference_written, rule_written, set_with, target_written, written}
use Rattle.ent_polform.specs.proofs_only.Written.{set_written}
use Rattle.ent_polform.proofs.WrittenLemmas.{set_is_written}
use Rattle.law_restart.proofs.Utf8Data.{IfThere, IsUtf8Data, get_utf8, list_utf8, one_utf8, text_utf8}
use Rattle.law_restart.proofs.Utf8Reads.{Reads, Utf8Expression, Utf8Target, any_then, each_written, either_reads, expression_reads, formed_reads, known_is, list_reads, maybe_reads, maybe_target_reads, no_form, part_then, reads, text_reads, then_reads}
use Rattle.law_restart.proofs.Utf8Written.{decimal_utf8, filled_written, joined_utf8, maybe_string, object_utf8, only_utf8, put_optional_utf8}
use Rattle.law_restart.proofs.Utf8Data.{put_utf8}

-- ---- assignments, obligations and advice

abbrev Utf8Assignment : RawAssignment → Type 0
Utf8Assignment a = IsUtf8Data (assignment_written (assignment_read a).value)

raw_assignment : (a : RawAssignment) → IsUtf8 a.attribute → IfThere IsUtf8 a.category → IfThere IsUtf8 a.issuer → Utf8Expression a.expression → Utf8Assignment a
unfolding assignment_read assignment_written
raw_assignment a attribute category issuer expression =
    object_utf8 ((codes "AttributeId", Some (json.string a.attribute)) ∷ (codes "Category", option_map json.string a.category) ∷ (codes "Expression", Some (expression_written (expression_read a.expression).value))
    ∷ (codes "Issuer", option_map json.string a.issuer) ∷ [])
    ((refl, attribute), ((refl, maybe_string a.category category), ((refl, expression), ((refl, maybe_string a.issuer issuer), tt))))

assignment_reads : (d : Data) → IsUtf8Data d → Reads Utf8Assignment (assignment_of d)
unfolding assignment_of
assignment_reads d h =
    formed_reads _ _ (part_then IsUtf8 (text_at (codes "AttributeId") d) _ (text_utf8 (codes "AttributeId") d h) (λ attribute a.
    then_reads (IfThere IsUtf8) (maybe text_of (get (codes "Category") d)) _ (maybe_reads IsUtf8 text_of (get (codes "Category") d) text_reads (get_utf8 (codes "Category") d h)) (λ category b.
    then_reads (IfThere IsUtf8) (maybe text_of (get (codes "Issuer") d)) _ (maybe_reads IsUtf8 text_of (get (codes "Issuer") d) text_reads (get_utf8 (codes "Issuer") d h)) (λ issuer c.
    then_reads Utf8Expression (part (get (codes "Expression") d) >>= expression_of) _ (part_then IsUtf8Data (get (codes "Expression") d) expression_of (get_utf8 (codes "Expression") d h) expression_reads) (λ expression e.
    record { is = raw_assignment (record { attribute = attribute; category = category; issuer = issuer; expression = expression }) a b c e })))))

effect_utf8 : (effect : Effect) → IsUtf8 (effect_word effect)
effect_utf8 Permit = IsUtf8-are_ascii _ refl
effect_utf8 Deny = IsUtf8-are_ascii _ refl

-- the keys are those of an obligation or of an advice
abbrev Utf8Given : List ℕ → List ℕ → RawGivenExpression → Type 0
Utf8Given id_key effect_key g = IsUtf8Data (given_written id_key effect_key (given_expression_read g).value)

raw_given : (id_key effect_key : List ℕ) (g : RawGivenExpression) → IsUtf8 id_key → IsUtf8 effect_key → IsUtf8 g.id → AllByRecursion Utf8Assignment g.assignments → Utf8Given id_key effect_key g
unfolding given_expression_read given_written
raw_given id_key effect_key g a b id all =
    put_utf8 id_key (json.string g.id) _ a id (put_utf8 effect_key (json.string (effect_word g.effect)) _ b (effect_utf8 g.effect)
    (put_optional_utf8 (codes "AttributeAssignmentExpression") (filled_list _) json.no_members refl (filled_written _ (each_written assignment_read assignment_written g.assignments all)) tt))

given_reads : (id_key effect_key : List ℕ) → IsUtf8 id_key → IsUtf8 effect_key → (d : Data) → IsUtf8Data d → Reads (Utf8Given id_key effect_key) (given_by id_key effect_key d)
unfolding given_by
given_reads id_key effect_key a b d h =
    formed_reads _ _ (part_then IsUtf8 (text_at id_key d) _ (text_utf8 id_key d h) (λ id is.
    any_then (part (option_and_then effect_of (text_at effect_key d))) _ (λ effect.
    then_reads (AllByRecursion Utf8Assignment) (list_by faults.Form assignment_of (list_at (codes "AttributeAssignmentExpression") d)) _
    (list_reads Utf8Assignment assignment_of (list_at (codes "AttributeAssignmentExpression") d) assignment_reads (list_utf8 (codes "AttributeAssignmentExpression") d h)) (λ assignments all.
    record { is = raw_given id_key effect_key (record { id = id; effect = effect; assignments = assignments }) a b is all }))))

abbrev Utf8Obligation : RawGivenExpression → Type 0
Utf8Obligation = Utf8Given (codes "ObligationId") (codes "FulfillOn")

abbrev Utf8Advice : RawGivenExpression → Type 0
Utf8Advice = Utf8Given (codes "AdviceId") (codes "AppliesTo")

record Utf8Givens (g : RawGivenExpressions) : Type 0 where
  obligations : IfThere IsUtf8Data (obligations_written (given_read g).value)
  advice : IfThere IsUtf8Data (advice_written (given_read g).value)

raw_givens : (os all : List RawGivenExpression) → AllByRecursion Utf8Obligation os → AllByRecursion Utf8Advice all → Utf8Givens (record { obligations = os; advice = all })
unfolding given_read
raw_givens os all a b = record {
  obligations = filled_written _ (each_written given_expression_read (given_written (codes "ObligationId") (codes "FulfillOn")) os a);
  advice = filled_written _ (each_written given_expression_read (given_written (codes "AdviceId") (codes "AppliesTo")) all b);
}

givens_reads : (d : Data) → IsUtf8Data d → Reads Utf8Givens (given_of d)
unfolding given_of
givens_reads d h =
    then_reads (AllByRecursion Utf8Obligation) (list_by faults.Form (given_by (codes "ObligationId") (codes "FulfillOn")) (list_at (codes "ObligationExpressions") d)) _
    (list_reads Utf8Obligation (given_by (codes "ObligationId") (codes "FulfillOn")) (list_at (codes "ObligationExpressions") d) (given_reads (codes "ObligationId") (codes "FulfillOn") (IsUtf8-are_ascii _ refl) (IsUtf8-are_ascii _ refl)) (list_utf8 (codes "ObligationExpressions") d h)) (λ os a.
    then_reads (AllByRecursion Utf8Advice) (list_by faults.Form (given_by (codes "AdviceId") (codes "AppliesTo")) (list_at (codes "AdviceExpressions") d)) _
    (list_reads Utf8Advice (given_by (codes "AdviceId") (codes "AppliesTo")) (list_at (codes "AdviceExpressions") d) (given_reads (codes "AdviceId") (codes "AppliesTo") (IsUtf8-are_ascii _ refl) (IsUtf8-are_ascii _ refl)) (list_utf8 (codes "AdviceExpressions") d h)) (λ all b.
    record { is = raw_givens os all a b }))

-- ---- rules and policies

abbrev Utf8Definition : RawVariableDefinition → Type 0
Utf8Definition v = IsUtf8Data (definition_written (definition_read v).value)

raw_definition : (v : RawVariableDefinition) → IsUtf8 v.id → Utf8Expression v.expression → Utf8Definition v
unfolding definition_read definition_written
raw_definition v id expression =
    object_utf8 ((codes "Expression", Some (expression_written (expression_read v.expression).value)) ∷ (codes "VariableId", Some (json.string v.id)) ∷ []) ((refl, expression), ((refl, id), tt))

definition_reads : (d : Data) → IsUtf8Data d → Reads Utf8Definition (definition_of d)
unfolding definition_of
definition_reads d h =
    formed_reads _ _ (part_then IsUtf8 (text_at (codes "VariableId") d) _ (text_utf8 (codes "VariableId") d h) (λ id a.
    then_reads Utf8Expression (part (get (codes "Expression") d) >>= expression_of) _ (part_then IsUtf8Data (get (codes "Expression") d) expression_of (get_utf8 (codes "Expression") d h) expression_reads) (λ expression b.
    record { is = raw_definition (record { id = id; expression = expression }) a b })))

abbrev Utf8Rule : RawRule → Type 0
Utf8Rule r = IsUtf8Data (rule_written (rule_read r).value)

condition_utf8 : (o : Option RawExpression) → IfThere Utf8Expression o → IfThere IsUtf8Data (option_map expression_written (maybe_read expression_read o).value)
condition_utf8 None h = tt
condition_utf8 (Some e) h = h

raw_rule : (r : RawRule) → IsUtf8 r.id → Utf8Target r.target → IfThere Utf8Expression r.condition → Utf8Givens r.given → Utf8Rule r
unfolding rule_read rule_written
raw_rule r id target condition given =
    object_utf8 ((codes "AdviceExpressions", advice_written (given_read r.given).value) ∷ (codes "Condition", option_map expression_written (maybe_read expression_read r.condition).value)
    ∷ (codes "Effect", Some (json.string (effect_word r.effect))) ∷ (codes "ObligationExpressions", obligations_written (given_read r.given).value) ∷ (codes "RuleId", Some (json.string r.id))
    ∷ (codes "Target", target_written (target_read r.target).value) ∷ [])
    ((refl, given.advice), ((refl, condition_utf8 r.condition condition), ((refl, effect_utf8 r.effect), ((refl, given.obligations), ((refl, id), ((refl, target), tt))))))

rule_reads : (d : Data) → IsUtf8Data d → Reads Utf8Rule (rule_of d)
unfolding rule_of
rule_reads d h =
    formed_reads _ _ (part_then IsUtf8 (text_at (codes "RuleId") d) _ (text_utf8 (codes "RuleId") d h) (λ id a.
    any_then (part (option_and_then effect_of (text_at (codes "Effect") d))) _ (λ effect.
    then_reads Utf8Target (target_or_empty (get (codes "Target") d)) _ (maybe_target_reads (get (codes "Target") d) (get_utf8 (codes "Target") d h)) (λ target b.
    then_reads (IfThere Utf8Expression) (maybe expression_of (get (codes "Condition") d)) _ (maybe_reads Utf8Expression expression_of (get (codes "Condition") d) expression_reads (get_utf8 (codes "Condition") d h)) (λ condition c.
    then_reads Utf8Givens (given_of d) _ (givens_reads d h) (λ given e.
    record { is = raw_rule (record { id = id; effect = effect; target = target; condition = condition; given = given }) a b c e }))))))

decimals_utf8 : (ns : List ℕ) → AllByRecursion IsUtf8 (map Rattle.std.specs.Fmt.decimal ns)
decimals_utf8 [] = tt
decimals_utf8 (n ∷ ns) = (decimal_utf8 n, decimals_utf8 ns)

pub version_utf8 : (numbers : List ℕ) → IsUtf8 (version_text numbers)
version_utf8 numbers = joined_utf8 _ (decimals_utf8 numbers)

deny_utf8 : IsUtf8 (rule_id_of DenyOverrides)
unfolding rule_id_of
deny_utf8 = IsUtf8-are_ascii _ refl

rule_algorithm_utf8 : (text : List ℕ) → IsUtf8 text → IsUtf8 (rule_id_of (rule_algorithm_read text).value)
rule_algorithm_utf8 text u =
    known_is (λ a. IsUtf8 (rule_id_of a)) DenyOverrides faults.Algorithm (rule_algorithm_of text) deny_utf8 (λ a is. subst IsUtf8 ((rule_ids_read_back text a).0 is) u)

only_one_utf8 : IsUtf8 (policy_id_of OnlyOne)
unfolding policy_id_of
only_one_utf8 = IsUtf8-are_ascii _ refl

policy_algorithm_utf8 : (text : List ℕ) → IsUtf8 text → IsUtf8 (policy_id_of (policy_algorithm_read text).value)
policy_algorithm_utf8 text u =
    known_is (λ a. IsUtf8 (policy_id_of a)) OnlyOne faults.Algorithm (policy_algorithm_of text) only_one_utf8 (λ a is. subst IsUtf8 ((policy_ids_read_back text a).0 is) u)

abbrev Utf8Policy : RawPolicy → Type 0
Utf8Policy p = IsUtf8Data (policy_written (policy_read p).value)

raw_policy : (p : RawPolicy) → IsUtf8 p.id → IsUtf8 p.algorithm → Utf8Target p.target → AllByRecursion Utf8Definition p.variables → AllByRecursion Utf8Rule p.rules → Utf8Givens p.given → Utf8Policy p
unfolding policy_read policy_written
raw_policy p id algorithm target variables rules given =
    object_utf8 ((codes "AdviceExpressions", advice_written (given_read p.given).value) ∷ (codes "ObligationExpressions", obligations_written (given_read p.given).value) ∷ (codes "PolicyId", Some (json.string p.id))
    ∷ (codes "Rule", filled_list (map rule_written (each_read rule_read p.rules).value)) ∷ (codes "RuleCombiningAlgId", Some (json.string (rule_id_of (rule_algorithm_read p.algorithm).value)))
    ∷ (codes "Target", target_written (target_read p.target).value) ∷ (codes "VariableDefinition", filled_list (map definition_written (each_read definition_read p.variables).value))
    ∷ (codes "Version", Some (json.string (version_text (version_read p.version).value))) ∷ []) (
      (refl, given.advice),
      (
        (refl, given.obligations),
        (
          (refl, id),
          (
            (refl, filled_written _ (each_written rule_read rule_written p.rules rules)),
            (
              (refl, rule_algorithm_utf8 p.algorithm algorithm),
              ((refl, target), ((refl, filled_written _ (each_written definition_read definition_written p.variables variables)), ((refl, version_utf8 (version_read p.version).value), tt))),
            ),
          ),
        ),
      ),
    )

policy_reads : (d : Data) → IsUtf8Data d → Reads Utf8Policy (policy_of d)
unfolding policy_of
policy_reads d h =
    formed_reads _ _ (part_then IsUtf8 (text_at (codes "PolicyId") d) _ (text_utf8 (codes "PolicyId") d h) (λ id a.
    any_then (part (text_at (codes "Version") d)) _ (λ version.
    part_then IsUtf8 (text_at (codes "RuleCombiningAlgId") d) _ (text_utf8 (codes "RuleCombiningAlgId") d h) (λ algorithm b.
    then_reads Utf8Target (target_or_empty (get (codes "Target") d)) _ (maybe_target_reads (get (codes "Target") d) (get_utf8 (codes "Target") d h)) (λ target c.
    then_reads (AllByRecursion Utf8Definition) (list_by faults.Form definition_of (list_at (codes "VariableDefinition") d)) _ (list_reads Utf8Definition definition_of (list_at (codes "VariableDefinition") d) definition_reads (list_utf8 (codes "VariableDefinition") d h)) (λ variables e.
    then_reads (AllByRecursion Utf8Rule) (list_by faults.Form rule_of (list_at (codes "Rule") d)) _ (list_reads Utf8Rule rule_of (list_at (codes "Rule") d) rule_reads (list_utf8 (codes "Rule") d h)) (λ rules f.
    then_reads Utf8Givens (given_of d) _ (givens_reads d h) (λ given g.
    record { is = raw_policy (record { id = id; version = version; algorithm = algorithm; target = target; variables = variables; rules = rules; given = given }) a b c e f g }))))))))

-- ---- references

part_utf8 : (p : PatternPart) → IsUtf8 (part_text p)
part_utf8 (Number n) = decimal_utf8 n
part_utf8 Any = IsUtf8-are_ascii _ refl
part_utf8 More = IsUtf8-are_ascii _ refl

parts_utf8 : (ps : List PatternPart) → AllByRecursion IsUtf8 (map part_text ps)
parts_utf8 [] = tt
parts_utf8 (p ∷ ps) = (part_utf8 p, parts_utf8 ps)

maybe_pattern : (o : Option (List PatternPart)) → IfThere IsUtf8Data (option_map pattern_written o)
maybe_pattern None = tt
maybe_pattern (Some ps) = joined_utf8 _ (parts_utf8 ps)

kind_ascii : (kind : Kind) → Rattle.json.proofs.Printed.Utf8.are_ascii (reference_key kind) ≡ true
kind_ascii kinds.Policy = refl
kind_ascii kinds.PolicySet = refl

pub reference_utf8 : (r : Reference) → IsUtf8 r.id → IsUtf8Data (reference_written r)
unfolding reference_written
reference_utf8 r id =
    only_utf8 (reference_key r.kind) (reference_body r) (kind_ascii r.kind)
    (object_utf8 ((codes "EarliestVersion", option_map pattern_written r.constraints.earliest) ∷ (codes "Id", Some (json.string r.id)) ∷ (codes "LatestVersion", option_map pattern_written r.constraints.latest)
    ∷ (codes "Version", option_map pattern_written r.constraints.version) ∷ [])
    ((refl, maybe_pattern r.constraints.earliest), ((refl, id), ((refl, maybe_pattern r.constraints.latest), ((refl, maybe_pattern r.constraints.version), tt)))))

abbrev pub Utf8Reference : RawReference → Type 0
Utf8Reference r = IsUtf8Data (reference_written (reference_read r).value)

name_utf8 : (text : List ℕ) → IsUtf8 text → IsUtf8 (known (codes "-") faults.Identifier (name_of text)).value
name_utf8 text u = by (is_bad_name text)
  where
    by : (b : Bool) → IsUtf8 (known (codes "-") faults.Identifier (if b then None else Some text)).value
    by true = IsUtf8-are_ascii _ refl
    by false = u

raw_reference : (r : RawReference) → IsUtf8 r.id → Utf8Reference r
unfolding reference_read
raw_reference r id = reference_utf8 _ (name_utf8 r.id id)

pub reference_reads : (kind : Kind) (d : Data) → IsUtf8Data d → Reads Utf8Reference (reference_by kind d)
unfolding reference_by
reference_reads kind d h =
    formed_reads _ _ (part_then IsUtf8 (text_at (codes "Id") d) _ (text_utf8 (codes "Id") d h) (λ id a.
    record { is = raw_reference (record { kind = kind; id = id; version = text_at (codes "Version") d; earliest = text_at (codes "EarliestVersion") d; latest = text_at (codes "LatestVersion") d }) a }))

-- ---- sets

abbrev Utf8Child : RawChild → Type 0
Utf8Child c = IsUtf8Data (child_written (child_read c).value)

abbrev Utf8Set : RawPolicySet → Type 0
Utf8Set s = IsUtf8Data (set_written (set_read s).value)

raw_set : (s : RawPolicySet) → IsUtf8 s.id → IsUtf8 s.algorithm → Utf8Target s.target → AllByRecursion Utf8Child s.children → Utf8Givens s.given → Utf8Set s
unfolding set_written
raw_set s id algorithm target inside given =
    object_utf8 ((codes "AdviceExpressions", advice_written (given_read s.given).value) ∷ (codes "Children", filled_list (map child_written (each_read child_read s.children).value))
    ∷ (codes "ObligationExpressions", obligations_written (given_read s.given).value) ∷ (codes "PolicyCombiningAlgId", Some (json.string (policy_id_of (policy_algorithm_read s.algorithm).value)))
    ∷ (codes "PolicySetId", Some (json.string s.id)) ∷ (codes "Target", target_written (target_read s.target).value) ∷ (codes "Version", Some (json.string (version_text (version_read s.version).value))) ∷ []) (
      (refl, given.advice),
      (
        (refl, filled_written _ (each_written child_read child_written s.children inside)),
        (
          (refl, given.obligations),
          (
            (refl, policy_algorithm_utf8 s.algorithm algorithm),
            ((refl, id), ((refl, target), ((refl, version_utf8 (version_read s.version).value), tt))),
          ),
        ),
      ),
    )

set_reads : (f : Data → Result RawChild DocFault) → ((d : Data) → IsUtf8Data d → Reads Utf8Child (f d)) → (d : Data) → IsUtf8Data d → Reads Utf8Set (set_by f d)
unfolding set_by
set_reads f good d h =
    formed_reads _ _ (part_then IsUtf8 (text_at (codes "PolicySetId") d) _ (text_utf8 (codes "PolicySetId") d h) (λ id a.
    any_then (part (text_at (codes "Version") d)) _ (λ version.
    part_then IsUtf8 (text_at (codes "PolicyCombiningAlgId") d) _ (text_utf8 (codes "PolicyCombiningAlgId") d h) (λ algorithm b.
    then_reads Utf8Target (target_or_empty (get (codes "Target") d)) _ (maybe_target_reads (get (codes "Target") d) (get_utf8 (codes "Target") d h)) (λ target c.
    then_reads (AllByRecursion Utf8Child) (list_by faults.Form f (list_at (codes "Children") d)) _ (list_reads Utf8Child f (list_at (codes "Children") d) good (list_utf8 (codes "Children") d h)) (λ inside e.
    then_reads Utf8Givens (given_of d) _ (givens_reads d h) (λ given g.
    record { is = raw_set (record { id = id; version = version; algorithm = algorithm; target = target; children = inside; given = given }) a b c e g })))))))

-- ---- children and documents

policy_child : (p : RawPolicy) → Utf8Policy p → Utf8Child (raw_children.Policy p) × IsUtf8Data (written (trees.Policy (policy_read p).value))
unfolding Rattle.ent_policy.specs.declared.raw.RawChild.TheViews.roll-RawChild Rattle.ent_policy.specs.declared.document.Child.TheViews.roll-Child denote.Hole.Carrier.roll
policy_child p h =
    let spelled : child_written (children.Policy (policy_read p).value) ≡ only_member (codes "Policy") (policy_written (policy_read p).value) = fold-roll-Child Data Data child_step set_with (Child-F.Policy (policy_read p).value) in
    let read : child_read (raw_children.Policy p) ≡ reading.made (λ x. children.Policy x) (policy_read p) = fold-roll-RawChild (ReadOf Child) (ReadOf PolicySet) reading.child_step reading.set_step (RawChild-F.Policy p) in
    let here = subst IsUtf8Data (sym spelled) (only_utf8 (codes "Policy") _ refl h) in
    (subst (λ (r : ReadOf Child). IsUtf8Data (child_written r.value)) (sym read) here, here)

set_child : (s : RawPolicySet) → Utf8Set s → Utf8Child (raw_children.Set s) × IsUtf8Data (written (trees.Set (set_read s).value))
set_child s h =
    let here : IsUtf8Data (child_written (children.Set (set_read s).value)) = subst IsUtf8Data (sym (set_is_written (set_read s).value)) (only_utf8 (codes "PolicySet") _ refl h) in
    (subst (λ (r : ReadOf Child). IsUtf8Data (child_written r.value)) (sym (set_is_read s)) here, here)

reference_child : (r : RawReference) → Utf8Reference r → Utf8Child (raw_children.Reference r)
unfolding Rattle.ent_policy.specs.declared.raw.RawChild.TheViews.roll-RawChild Rattle.ent_policy.specs.declared.document.Child.TheViews.roll-Child denote.Hole.Carrier.roll
reference_child r h =
    let spelled : child_written (children.Reference (reference_read r).value) ≡ reference_written (reference_read r).value = fold-roll-Child Data Data child_step set_with (Child-F.Reference (reference_read r).value) in
    let read : child_read (raw_children.Reference r) ≡ reading.made (λ x. children.Reference x) (reference_read r) = fold-roll-RawChild (ReadOf Child) (ReadOf PolicySet) reading.child_step reading.set_step (RawChild-F.Reference r) in
    subst (λ (x : ReadOf Child). IsUtf8Data (child_written x.value)) (sym read) (subst IsUtf8Data (sym spelled) h)

-- as a child and as a document
record Utf8Document (d : RawDocument) : Type 0 where
  child : Utf8Child (Rattle.ent_polform.specs.Form.as_child d)
  tree : IsUtf8Data (written (document_read d).value)

document_reads : (f : Data → Result RawChild DocFault) → ((d : Data) → IsUtf8Data d → Reads Utf8Child (f d)) → (key : List ℕ) (d : Data) → IsUtf8Data d → Reads Utf8Document (raw_named f key d)
unfolding raw_named
document_reads f good key d h =
    either_reads _ _ _ (then_reads Utf8Policy (policy_of d) _ (policy_reads d h) (λ p is. let both = policy_child p is in record { is = record { child = both.0; tree = both.1 } }))
    (either_reads _ _ _ (then_reads Utf8Set (set_by f d) _ (set_reads f good d h) (λ s is. let both = set_child s is in record { is = record { child = both.0; tree = both.1 } })) no_form)

child_reads : (f : Data → Result RawChild DocFault) → ((d : Data) → IsUtf8Data d → Reads Utf8Child (f d)) → (key : List ℕ) (d : Data) (o : Option Kind) → IsUtf8Data d → Reads Utf8Child (child_named f key d o)
child_reads f good key d (Some kind) h = then_reads Utf8Reference (reference_by kind d) _ (reference_reads kind d h) (λ r is. record { is = reference_child r is })
child_reads f good key d None h = then_reads Utf8Document (raw_named f key d) _ (document_reads f good key d h) (λ x is. record { is = is.child })

levels_read : (n : ℕ) (d : Data) → IsUtf8Data d → Reads Utf8Child (within child_by n d)
unfolding within
levels_read zero d h = no_form
levels_read (suc n) d h =
    part_then (λ m. IsUtf8Data m.1) (one_member d) _ (one_utf8 d h) (λ m is. child_reads (within child_by n) (λ e g. levels_read n e g) m.0 m.1 (kind_of m.0) is)

children_read : (d : Data) → IsUtf8Data d → Reads Utf8Child (child_of d)
unfolding child_of
children_read d h = levels_read (suc (depth d)) d h

raw_reads : (d : Data) → IsUtf8Data d → Reads Utf8Document (raw_of d)
unfolding raw_of
raw_reads d h = part_then (λ m. IsUtf8Data m.1) (one_member d) _ (one_utf8 d h) (λ m is. document_reads child_of children_read m.0 m.1 is)

then_read : {A B F : Type 0} (r : Result A F) (f : A → Result B F) (y : B) → (r >>= f) ≡ Ok y → (x : A) × ((r ≡ Ok x) × (f x ≡ Ok y))
then_read (Ok x) f y h = (x, (refl, h))
then_read (Err e) f y h = absurd cc

-- what is written of a document that UTF-8 JSON spells
pub document_utf8 : (d : Data) (t : Tree) → IsUtf8Data d → document_of d ≡ Ok t → IsUtf8Data (written t)
unfolding document_of
document_utf8 d t h is =
    let step = then_read (raw_of d) checked t is in
    let whole = reads Utf8Document (raw_of d) step.0 (raw_reads d h) step.1.0 in
    subst (λ (x : Tree). IsUtf8Data (written x)) (passes step.0 t step.1.1).1 whole.tree
