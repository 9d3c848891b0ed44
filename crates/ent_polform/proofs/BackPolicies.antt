-- Rules and policies that are written read back.
use Rattle.std.proofs.Common.{◌≡◌, ℕ, List, [], ◌∷◌, map, true, Option, Some, None, option_map, Ok, codes, refl, ap, ◌∙◌}
use Rattle.std.specs.List.{AllByRecursion, flat_map}
use Rattle.std.specs.Option.{option_to_list}
use Rattle.serde_json.specs.Data as json
use Rattle.serde_json.specs.Data.{Data}
use Rattle.serde_json.specs.View.{items_of}
use Rattle.ent_values.specs.ReadBack.{HasFewYears, IsReal}
use Rattle.ent_values.specs.declared.value.Value.{Value}
use Rattle.ent_combine.proofs.Naming.{rule_ids_read_back}
use Rattle.ent_combine.specs.Identifiers.{rule_algorithm_of, rule_id_of}
use Rattle.ent_combine.specs.declared.outcome.RuleAlg.{RuleAlg}
use Rattle.ent_policy.specs.First.{first_of, if_so}
use Rattle.ent_policy.specs.Limits.{definition_fault, given_fault, has_double_rule, length_fault, maybe_fault, name_fault, policy_fault, rule_fault, target_fault, expression_fault}
use Rattle.ent_policy.specs.Reading.{definition_read, done, each_read, expression_read, given_read, made, maybe_read, policy_read, rule_algorithm_read, rule_read, target_read, version_read}
use Rattle.ent_policy.specs.Versions.{is_version, version_text}
use Rattle.ent_policy.specs.declared.document.Effect.{Effect}
use Rattle.ent_policy.specs.declared.document.Effect.TheVariants.{Permit, Deny}
use Rattle.ent_policy.specs.declared.document.Policy.{Policy}
use Rattle.ent_policy.specs.declared.document.Rule.{Rule}
use Rattle.ent_policy.specs.declared.expression.Expression.{Expression}
use Rattle.ent_policy.specs.declared.expression.VariableDefinition.{VariableDefinition}
use Rattle.ent_policy.specs.declared.fault.DocFault.TheVariants.{Identifier}
use Rattle.ent_policy.proofs.Wholes.{neither}
use Rattle.ent_policy.proofs.Written.{reads_back}
use Rattle.ent_polform.specs.Expressions.{expression_of}
use Rattle.ent_polform.specs.Form.{definition_of, policy_of, rule_of}
use Rattle.ent_polform.specs.Given.{given_of}
use Rattle.ent_polform.specs.Objects.{◌>>=◌, each_by}
use Rattle.ent_policy.specs.Values.{definition_values, expression_values, given_values, policy_values, rule_values, target_values}
use Rattle.ent_polform.specs.Reading.{maybe}
use Rattle.ent_polform.specs.Targets.{target_or_empty}
use Rattle.ent_json.specs.Members.{filled_list, optional}
use Rattle.ent_polform.specs.Written.{definition_written, effect_word, expression_written, policy_written, rule_written, target_written}
use Rattle.ent_polform.proofs.Back.{Back, Returns, all_back, both_few, both_of, made_back, no_fault, none_there}
use Rattle.ent_polform.proofs.BackExpressions.{expression_back}
use Rattle.ent_polform.proofs.BackGiven.{advice_of, both_back, given_in, obligations_of}
use Rattle.ent_polform.proofs.BackTargets.{target_back}

-- ---- definitions of variables

definition_back : (d : VariableDefinition) → Returns (λ x. definition_of (definition_written x)) definition_read (λ x. None) definition_values d
unfolding definition_of definition_written definition_read
definition_back d clean real =
    let b = expression_back d.expression refl real in
    (record { id = d.id; expression = b.0 }, (rw b.1.0 refl, made_back (λ x. record { id = d.id; expression = x }) b.1.1))

-- ---- rules

abbrev condition_values : Option Expression → List Value
condition_values c = flat_map expression_values (option_to_list c)

condition_back : (c : Option Expression) → AllByRecursion IsReal (condition_values c) → Back (maybe expression_of (option_map expression_written c)) (maybe_read expression_read) (condition_values c) c
condition_back None real = (None, (refl, record { same = λ few. refl; few = λ clear. tt }))
condition_back (Some e) real =
    let b = expression_back e refl (both_of IsReal (expression_values e) [] real).0 in (
      Some b.0,
      (
        rw b.1.0 refl,
        record {
          same = λ few. ap (made (λ y. Some y)) (b.1.1.same (both_of HasFewYears (expression_values e) [] few).0);
          few = λ clear. both_few (expression_values e) [] (b.1.1.few clear) tt;
        },
      ),
    )

rule_form : (id : List ℕ) (effect : Effect) (condition target : Option Data) (obligations advice : List Data) →
    rule_of (json.object (optional (codes "AdviceExpressions") (filled_list advice) (optional (codes "Condition") condition (json.member (codes "Effect") (json.string (effect_word effect))
    (optional (codes "ObligationExpressions") (filled_list obligations) (json.member (codes "RuleId") (json.string id) (optional (codes "Target") target json.no_members)))))))
    ≡ (target_or_empty target >>= λ t. maybe expression_of condition >>= λ c. given_in obligations advice >>= λ g. Ok (record { id = id; effect = effect; target = t; condition = c; given = g }))
unfolding rule_of given_of
rule_form id Permit None None [] [] = refl
rule_form id Permit None None [] (a ∷ rest) = refl
rule_form id Permit None None (o ∷ os) [] = refl
rule_form id Permit None None (o ∷ os) (a ∷ rest) = refl
rule_form id Permit None (Some t) [] [] = refl
rule_form id Permit None (Some t) [] (a ∷ rest) = refl
rule_form id Permit None (Some t) (o ∷ os) [] = refl
rule_form id Permit None (Some t) (o ∷ os) (a ∷ rest) = refl
rule_form id Permit (Some c) None [] [] = refl
rule_form id Permit (Some c) None [] (a ∷ rest) = refl
rule_form id Permit (Some c) None (o ∷ os) [] = refl
rule_form id Permit (Some c) None (o ∷ os) (a ∷ rest) = refl
rule_form id Permit (Some c) (Some t) [] [] = refl
rule_form id Permit (Some c) (Some t) [] (a ∷ rest) = refl
rule_form id Permit (Some c) (Some t) (o ∷ os) [] = refl
rule_form id Permit (Some c) (Some t) (o ∷ os) (a ∷ rest) = refl
rule_form id Deny None None [] [] = refl
rule_form id Deny None None [] (a ∷ rest) = refl
rule_form id Deny None None (o ∷ os) [] = refl
rule_form id Deny None None (o ∷ os) (a ∷ rest) = refl
rule_form id Deny None (Some t) [] [] = refl
rule_form id Deny None (Some t) [] (a ∷ rest) = refl
rule_form id Deny None (Some t) (o ∷ os) [] = refl
rule_form id Deny None (Some t) (o ∷ os) (a ∷ rest) = refl
rule_form id Deny (Some c) None [] [] = refl
rule_form id Deny (Some c) None [] (a ∷ rest) = refl
rule_form id Deny (Some c) None (o ∷ os) [] = refl
rule_form id Deny (Some c) None (o ∷ os) (a ∷ rest) = refl
rule_form id Deny (Some c) (Some t) [] [] = refl
rule_form id Deny (Some c) (Some t) [] (a ∷ rest) = refl
rule_form id Deny (Some c) (Some t) (o ∷ os) [] = refl
rule_form id Deny (Some c) (Some t) (o ∷ os) (a ∷ rest) = refl

rule_back : (r : Rule) → Returns (λ x. rule_of (rule_written x)) rule_read rule_fault rule_values r
unfolding rule_written rule_read rule_fault
rule_back r clean real =
    let none = none_there (name_fault r.id ∷ target_fault r.target ∷ maybe_fault expression_fault r.condition ∷ given_fault r.given ∷ []) clean in
    let first = target_values r.target in
    let second = condition_values r.condition in
    let both = both_of IsReal first _ real in
    let inside = both_of IsReal second (given_values r.given) both.1 in
    let t = target_back r.target none.1.0 both.0 in
    let c = condition_back r.condition inside.0 in
    let g = both_back r.given inside.1 in (
      record { id = r.id; effect = r.effect; target = t.0; condition = c.0; given = g.0 },
      (
        rule_form r.id r.effect (option_map expression_written r.condition) (target_written r.target) (obligations_of r.given) (advice_of r.given) ∙ rw (t.1.0, c.1.0, g.1.0) refl,
        record {
          same = λ few.
              let parts = both_of HasFewYears first _ few in
              let others = both_of HasFewYears second (given_values r.given) parts.1 in
              rw (t.1.1.same parts.0, c.1.1.same others.0, g.1.1.same others.1) refl;
          few = λ clear.
              let parts = neither (target_read t.0).fault _ clear in
              let others = neither (maybe_read expression_read c.0).fault _ parts.1 in
              both_few first _ (t.1.1.few parts.0) (both_few second (given_values r.given) (c.1.1.few others.0) (g.1.1.few (neither (given_read g.0).fault None others.1).0));
        },
      ),
    )

-- ---- policies

pub version_back : (v : List ℕ) → is_version v ≡ true → version_read (version_text v) ≡ done v
version_back v h = rw (reads_back v h) refl

algorithm_back : (a : RuleAlg) → rule_algorithm_of (rule_id_of a) ≡ Some a
algorithm_back a = (rule_ids_read_back (rule_id_of a) a).1 refl

policy_form : (id version algorithm : List ℕ) (target : Option Data) (variables rules obligations advice : List Data) →
    policy_of (json.object (optional (codes "AdviceExpressions") (filled_list advice) (optional (codes "ObligationExpressions") (filled_list obligations) (json.member (codes "PolicyId") (json.string id)
    (optional (codes "Rule") (filled_list rules) (json.member (codes "RuleCombiningAlgId") (json.string algorithm) (optional (codes "Target") target
    (optional (codes "VariableDefinition") (filled_list variables) (json.member (codes "Version") (json.string version) json.no_members)))))))))
    ≡ (target_or_empty target >>= λ t. each_by definition_of (items_of variables) >>= λ vs. each_by rule_of (items_of rules) >>= λ rs. given_in obligations advice >>= λ g.
    Ok (record { id = id; version = version; algorithm = algorithm; target = t; variables = vs; rules = rs; given = g }))
unfolding policy_of given_of
policy_form id version algorithm None [] [] [] [] = refl
policy_form id version algorithm None [] [] [] (a ∷ rest) = refl
policy_form id version algorithm None [] [] (o ∷ os) [] = refl
policy_form id version algorithm None [] [] (o ∷ os) (a ∷ rest) = refl
policy_form id version algorithm None [] (r ∷ rs) [] [] = refl
policy_form id version algorithm None [] (r ∷ rs) [] (a ∷ rest) = refl
policy_form id version algorithm None [] (r ∷ rs) (o ∷ os) [] = refl
policy_form id version algorithm None [] (r ∷ rs) (o ∷ os) (a ∷ rest) = refl
policy_form id version algorithm None (v ∷ vs) [] [] [] = refl
policy_form id version algorithm None (v ∷ vs) [] [] (a ∷ rest) = refl
policy_form id version algorithm None (v ∷ vs) [] (o ∷ os) [] = refl
policy_form id version algorithm None (v ∷ vs) [] (o ∷ os) (a ∷ rest) = refl
policy_form id version algorithm None (v ∷ vs) (r ∷ rs) [] [] = refl
policy_form id version algorithm None (v ∷ vs) (r ∷ rs) [] (a ∷ rest) = refl
policy_form id version algorithm None (v ∷ vs) (r ∷ rs) (o ∷ os) [] = refl
policy_form id version algorithm None (v ∷ vs) (r ∷ rs) (o ∷ os) (a ∷ rest) = refl
policy_form id version algorithm (Some t) [] [] [] [] = refl
policy_form id version algorithm (Some t) [] [] [] (a ∷ rest) = refl
policy_form id version algorithm (Some t) [] [] (o ∷ os) [] = refl
policy_form id version algorithm (Some t) [] [] (o ∷ os) (a ∷ rest) = refl
policy_form id version algorithm (Some t) [] (r ∷ rs) [] [] = refl
policy_form id version algorithm (Some t) [] (r ∷ rs) [] (a ∷ rest) = refl
policy_form id version algorithm (Some t) [] (r ∷ rs) (o ∷ os) [] = refl
policy_form id version algorithm (Some t) [] (r ∷ rs) (o ∷ os) (a ∷ rest) = refl
policy_form id version algorithm (Some t) (v ∷ vs) [] [] [] = refl
policy_form id version algorithm (Some t) (v ∷ vs) [] [] (a ∷ rest) = refl
policy_form id version algorithm (Some t) (v ∷ vs) [] (o ∷ os) [] = refl
policy_form id version algorithm (Some t) (v ∷ vs) [] (o ∷ os) (a ∷ rest) = refl
policy_form id version algorithm (Some t) (v ∷ vs) (r ∷ rs) [] [] = refl
policy_form id version algorithm (Some t) (v ∷ vs) (r ∷ rs) [] (a ∷ rest) = refl
policy_form id version algorithm (Some t) (v ∷ vs) (r ∷ rs) (o ∷ os) [] = refl
policy_form id version algorithm (Some t) (v ∷ vs) (r ∷ rs) (o ∷ os) (a ∷ rest) = refl

pub policy_back : (p : Policy) → is_version p.version ≡ true → Returns (λ x. policy_of (policy_written x)) policy_read policy_fault policy_values p
unfolding policy_written policy_read policy_fault
policy_back p version clean real =
    let none = none_there (name_fault p.id ∷ if_so (has_double_rule p.rules) Identifier ∷ length_fault p.variables ∷ length_fault p.rules ∷ target_fault p.target ∷ first_of (map definition_fault p.variables) ∷ first_of (map rule_fault p.rules) ∷ given_fault p.given ∷ []) clean in
    let first = target_values p.target in
    let second = flat_map definition_values p.variables in
    let third = flat_map rule_values p.rules in
    let both = both_of IsReal first _ real in
    let inside = both_of IsReal second _ both.1 in
    let last = both_of IsReal third (given_values p.given) inside.1 in
    let t = target_back p.target none.1.1.1.1.0 both.0 in
    let ds = all_back definition_of definition_written definition_read (λ x. None) definition_values definition_back p.variables (no_fault p.variables) inside.0 in
    let rs = all_back rule_of rule_written rule_read rule_fault rule_values rule_back p.rules none.1.1.1.1.1.1.0 last.0 in
    let g = both_back p.given last.1 in (
      record { id = p.id; version = version_text p.version; algorithm = rule_id_of p.algorithm; target = t.0; variables = ds.0; rules = rs.0; given = g.0 },
      (
        policy_form p.id (version_text p.version) (rule_id_of p.algorithm) (target_written p.target) (map definition_written p.variables) (map rule_written p.rules) (obligations_of p.given) (advice_of p.given)
            ∙ rw (t.1.0, ds.1.0, rs.1.0, g.1.0) refl,
        record {
          same = λ few.
              let parts = both_of HasFewYears first _ few in
              let others = both_of HasFewYears second _ parts.1 in
              let ends = both_of HasFewYears third (given_values p.given) others.1 in
              let definitions = ds.1.1.same others.0 in
              let rules = rs.1.1.same ends.0 in
              rw (version_back p.version version, algorithm_back p.algorithm, t.1.1.same parts.0, ap (λ r. r.value) definitions, ap (λ r. r.fault) definitions, ap (λ r. r.value) rules, ap (λ r. r.fault) rules, g.1.1.same ends.1) refl;
          few = λ clear.
              let named = neither (rule_algorithm_read (rule_id_of p.algorithm)).fault _ (neither (version_read (version_text p.version)).fault _ clear).1 in
              let parts = neither (target_read t.0).fault _ named.1 in
              let others = neither (each_read definition_read ds.0).fault _ parts.1 in
              let ends = neither (each_read rule_read rs.0).fault _ others.1 in
              both_few first _ (t.1.1.few parts.0)
              (both_few second _ (ds.1.1.few others.0) (both_few third (given_values p.given) (rs.1.1.few ends.0) (g.1.1.few (neither (given_read g.0).fault None ends.1).0)));
        },
      ),
    )
