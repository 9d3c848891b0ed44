-- A part of which nothing is told in no policy has no fault of types in any.
use Rattle.std.proofs.Common.{◌≡◌, ℕ, min, List, [], ◌∷◌, map, Bool, true, false, not, Option, Some, None, Result, Ok, Err, bytes_eq, codes, refl, sym, ap, subst, ◌∙◌, inl, inr, arith}
use Rattle.std.specs.Prelude.{if◌then◌else◌}
use Rattle.std.proofs.lemmas.Bool.{and_parts, cases_lt, false_from_ne_true, false≢true}
use Rattle.serde_json.specs.Data.{Data}
use Rattle.ent_json.specs.Objects.{one_member}
use Rattle.ent_policy.specs.Check.{fault_of}
use Rattle.ent_policy.specs.First.{first_of}
use Rattle.ent_policy.specs.Limits.{length_fault}
use Rattle.ent_policy.specs.declared.document.Effect.TheVariants.{Permit}
use Rattle.ent_policy.specs.declared.fault.DocFault.{DocFault}
use Rattle.ent_policy.specs.declared.fault.DocFault.TheVariants as fault
use Rattle.ent_policy.specs.declared.key.Kind.TheVariants as kind
use Rattle.ent_policy.specs.declared.raw.RawAssignment.{RawAssignment}
use Rattle.ent_policy.specs.declared.raw.RawDocument.{RawDocument}
use Rattle.ent_policy.specs.declared.raw.RawExpression.{RawExpression}
use Rattle.ent_policy.specs.declared.raw.RawVariableDefinition.{RawVariableDefinition}
use Rattle.ent_polform.specs.Expressions.{expression_named, expression_of}
use Rattle.ent_polform.specs.Form.{raw_of, rule_of}
use Rattle.ent_polform.specs.Given.{assignment_of, given_by}
use Rattle.ent_polform.specs.Objects.{◌>>=◌}
use Rattle.ent_polform.specs.Targets.{match_of, one_all_of, one_any_of, target_of}
use Rattle.lint_places.specs.Places.{is_fault, is_faulty}
use Rattle.lint_places.specs.Told.{Scope, advice_told, all_ofs_told, any_ofs_told, argument_by, argument_told, arguments_told, assignments_told, body_told, children_told, condition_told, definitions_told, each, everything, expression_told, first_fault, function_told, given_told, in_policy, leaf_told, list_of, list_told, matches_told, nothing_given, nowhere, obligations_told, of_advice, of_all_ofs, of_any_ofs, of_assignments, of_condition, of_expression, of_matches, of_obligations, of_rules, of_target, policy_told, reference_told, rules_told, scope_told, set_told, target_part_told, target_told, told, variables_in, variables_of, variables_told, whole_told}
use Rattle.lint_places.specs.declared.part.Part.{Part}
use Rattle.lint_places.specs.declared.part.Part.TheVariants as part
use Rattle.lint_places.specs.proofs_only.Clear.{IsFineAlone}
use Rattle.lint_places.proofs.Passing.{types_of_others}
use Rattle.lint_places.proofs.Ranks.{fault_of_rank, rank, rank_earlier, rank_most, rank_of_fault}

module _ (s : Scope) where
  -- where nothing is told in no policy, what is told of types in this scope is told of its definitions
  abbrev IsOfOthers : Option DocFault → Option DocFault → Type 0
  IsOfOthers alone among = rank alone ≡ 9 → rank among ≡ 8 → rank (scope_told s) ≡ 8

  -- what doesn't rest on the scope
  same_told : (o : Option DocFault) → IsOfOthers o o
  same_told o none types = absurd (omega (arith, none, types))

  nowhere_is : variables_in nowhere ≡ Ok []
  unfolding variables_in variables_of
  nowhere_is = refl

  no_variables : (ds : List Data) → s.definitions ≡ ds → ds ≡ [] → variables_in s ≡ Ok []
  unfolding variables_in variables_of
  no_variables ds is none = ap (λ (es : List Data). variables_of s.standing es) (is ∙ none)

  -- the definitions of the scope, as they are read
  module _ {A : Type 0} (of : A → List RawVariableDefinition → RawDocument)
      (others : (x : A) (vs : List RawVariableDefinition) → rank (fault_of (of x [])) ≡ 9 → rank (fault_of (of x vs)) ≡ 8 → rank (fault_of (of_rules [] vs)) ≡ 8) where
    among_read : (x : A) (ds : List Data) (r : Result (List RawVariableDefinition) DocFault) → s.definitions ≡ ds → variables_in s ≡ r
        → rank (fault_of (of x [])) ≡ 9 → rank (first_fault (r >>= λ vs. Ok (of x vs))) ≡ 8 → rank (variables_told ds s) ≡ 8
    among_read x [] r none is alone types =
        let empty : r ≡ Ok [] = sym is ∙ no_variables [] none refl in
        let again : rank (fault_of (of x [])) ≡ 8 = subst (λ (q : Result (List RawVariableDefinition) DocFault). rank (first_fault (q >>= λ vs. Ok (of x vs))) ≡ 8) empty types in
        absurd (omega (arith, alone, again))
    among_read x (d ∷ ds) (Err e) some is alone types = rw is types
    among_read x (d ∷ ds) (Ok vs) some is alone types = rw is (others x vs alone types)

    in_both : (read : Result A DocFault) → IsOfOthers (in_policy of nowhere read) (in_policy of s read)
    unfolding scope_told
    in_both (Err e) alone types = same_told (Some e) alone types
    in_both (Ok x) alone types =
        let bare : rank (fault_of (of x [])) ≡ 9 = subst (λ (q : Result (List RawVariableDefinition) DocFault). rank (first_fault (q >>= λ vs. Ok (of x vs))) ≡ 9) nowhere_is alone in
        among_read x s.definitions (variables_in s) refl refl bare types

  list_others : (g h : List Data → Option DocFault) → ((ds : List Data) → IsOfOthers (g ds) (h ds)) → (o : Option (List Data)) → IsOfOthers (list_told g o) (list_told h o)
  list_others g h same None = same_told (Some fault.Form)
  list_others g h same (Some ds) = same ds

  rules_others : (ds : List Data) → IsOfOthers (rules_told nowhere ds) (rules_told s ds)
  unfolding rules_told of_rules
  rules_others ds = in_both of_rules (λ rs vs. types_of_others everything rs nothing_given vs) (each rule_of ds)

  target_others : (d : Data) → IsOfOthers (target_told nowhere d) (target_told s d)
  unfolding target_told of_target
  target_others d = in_both of_target (λ x vs. types_of_others x [] nothing_given vs) (target_of d)

  any_ofs_others : (ds : List Data) → IsOfOthers (any_ofs_told nowhere ds) (any_ofs_told s ds)
  unfolding any_ofs_told of_any_ofs of_target
  any_ofs_others ds = in_both of_any_ofs (λ x vs. types_of_others (record { any_of = x }) [] nothing_given vs) (each one_any_of ds)

  all_ofs_others : (ds : List Data) → IsOfOthers (all_ofs_told nowhere ds) (all_ofs_told s ds)
  unfolding all_ofs_told of_all_ofs of_any_ofs of_target
  all_ofs_others ds = in_both of_all_ofs (λ x vs. types_of_others (record { any_of = record { all_of = x } ∷ [] }) [] nothing_given vs) (each one_all_of ds)

  matches_others : (ds : List Data) → IsOfOthers (matches_told nowhere ds) (matches_told s ds)
  unfolding matches_told of_matches of_all_ofs of_any_ofs of_target
  matches_others ds = in_both of_matches (λ x vs. types_of_others (record { any_of = record { all_of = record { matches = x } ∷ [] } ∷ [] }) [] nothing_given vs) (each match_of ds)

  condition_others : (d : Data) → IsOfOthers (condition_told nowhere d) (condition_told s d)
  unfolding condition_told of_condition of_rules
  condition_others d = in_both of_condition (λ x vs. types_of_others everything (record { id = codes "-"; effect = Permit; target = everything; condition = Some x; given = nothing_given } ∷ []) nothing_given vs) (expression_of d)

  obligations_others : (ds : List Data) → IsOfOthers (obligations_told nowhere ds) (obligations_told s ds)
  unfolding obligations_told of_obligations
  obligations_others ds = in_both of_obligations (λ x vs. types_of_others everything [] (record { obligations = x; advice = [] }) vs) (each (given_by (codes "ObligationId") (codes "FulfillOn")) ds)

  advice_others : (ds : List Data) → IsOfOthers (advice_told nowhere ds) (advice_told s ds)
  unfolding advice_told of_advice
  advice_others ds = in_both of_advice (λ x vs. types_of_others everything [] (record { obligations = []; advice = x }) vs) (each (given_by (codes "AdviceId") (codes "AppliesTo")) ds)

  assigned_others : (x : List RawAssignment) (vs : List RawVariableDefinition) → rank (fault_of (of_assignments x [])) ≡ 9 → rank (fault_of (of_assignments x vs)) ≡ 8 → rank (fault_of (of_rules [] vs)) ≡ 8
  unfolding of_assignments of_obligations
  assigned_others x vs = types_of_others everything [] (record { obligations = record { id = codes "-"; effect = Permit; assignments = x } ∷ []; advice = [] }) vs

  assignments_others : (ds : List Data) → IsOfOthers (assignments_told nowhere ds) (assignments_told s ds)
  unfolding assignments_told
  assignments_others ds = in_both of_assignments assigned_others (each assignment_of ds)

  expressed_others : (x : RawExpression) (vs : List RawVariableDefinition) → rank (fault_of (of_expression x [])) ≡ 9 → rank (fault_of (of_expression x vs)) ≡ 8 → rank (fault_of (of_rules [] vs)) ≡ 8
  unfolding of_expression
  expressed_others x vs = assigned_others (record { attribute = codes "-"; category = None; issuer = None; expression = x } ∷ []) vs

  body_others : (key : List ℕ) (d : Data) → IsOfOthers (body_told key nowhere d) (body_told key s d)
  unfolding body_told
  body_others key d = in_both of_expression expressed_others (expression_named expression_of key d)

  whole_others : (d : Data) → IsOfOthers (whole_told nowhere d) (whole_told s d)
  unfolding whole_told
  whole_others d = in_both of_expression expressed_others (expression_of d)

  argument_others : (d : Data) → IsOfOthers (argument_told nowhere d) (argument_told s d)
  unfolding argument_told
  argument_others d = by_member (one_member d)
    where
      by_name : (m : Data) (b : Bool) → IsOfOthers (if b then function_told m else whole_told nowhere d) (if b then function_told m else whole_told s d)
      by_name m true = same_told (function_told m)
      by_name m false = whole_others d

      by_member : (o : Option (List ℕ × Data)) → IsOfOthers (argument_by nowhere d o) (argument_by s d o)
      by_member None = same_told (Some fault.Form)
      by_member (Some m) = by_name m.1 (bytes_eq m.0 (codes "Function"))

  -- of the first of two, of which nothing is told in no policy
  earlier_others : (a b : ℕ) (P : Type 0) → (a ≡ 8 → P) → (b ≡ 8 → P) → min a b ≡ 8 → P
  earlier_others a b P first second is =
      elim (cases_lt 8 a) [
        | inl later ↦ second (omega (arith, is, later))
        | inr here ↦ first (omega (arith, is, here))
      ]

  firsts_others : (ds : List Data) → IsOfOthers (first_of (map (argument_told nowhere) ds)) (first_of (map (argument_told s) ds))
  firsts_others [] alone types = same_told None alone types
  firsts_others (d ∷ ds) alone types =
      let none : min (rank (argument_told nowhere d)) (rank (first_of (map (argument_told nowhere) ds))) ≡ 9 = sym (rank_earlier (argument_told nowhere d) (first_of (map (argument_told nowhere) ds))) ∙ alone in
      let is : min (rank (argument_told s d)) (rank (first_of (map (argument_told s) ds))) ≡ 8 = sym (rank_earlier (argument_told s d) (first_of (map (argument_told s) ds))) ∙ types in
      let most = rank_most (argument_told nowhere d) in
      let rest = rank_most (first_of (map (argument_told nowhere) ds)) in
      earlier_others (rank (argument_told s d)) (rank (first_of (map (argument_told s) ds))) (rank (scope_told s) ≡ 8)
      (argument_others d (omega (arith, none, most))) (firsts_others ds (omega (arith, none, rest))) is

  arguments_others : (ds : List Data) → IsOfOthers (arguments_told nowhere ds) (arguments_told s ds)
  unfolding arguments_told
  arguments_others ds alone types =
      let none : min (rank (length_fault ds)) (rank (first_of (map (argument_told nowhere) ds))) ≡ 9 = sym (rank_earlier (length_fault ds) (first_of (map (argument_told nowhere) ds))) ∙ alone in
      let is : min (rank (length_fault ds)) (rank (first_of (map (argument_told s) ds))) ≡ 8 = sym (rank_earlier (length_fault ds) (first_of (map (argument_told s) ds))) ∙ types in
      let rest = rank_most (first_of (map (argument_told nowhere) ds)) in
      let long = rank_most (length_fault ds) in
      firsts_others ds (omega (arith, none, rest)) (omega (arith, none, is, long))

  given_others : (p : Part) (d : Data) → IsOfOthers (given_told p nowhere d) (given_told p s d)
  unfolding given_told
  given_others part.Obligations d = list_others (obligations_told nowhere) (obligations_told s) obligations_others (list_of d)
  given_others part.Obligation d = obligations_others (d ∷ [])
  given_others part.Advices d = list_others (advice_told nowhere) (advice_told s) advice_others (list_of d)
  given_others part.Advice d = advice_others (d ∷ [])
  given_others part.Assignments d = list_others (assignments_told nowhere) (assignments_told s) assignments_others (list_of d)
  given_others part.Assignment d = assignments_others (d ∷ [])
  given_others p d = same_told (leaf_told p d)

  expression_others : (p : Part) (d : Data) → IsOfOthers (expression_told p nowhere d) (expression_told p s d)
  unfolding expression_told
  expression_others part.Condition d = condition_others d
  expression_others part.Expression d = whole_others d
  expression_others part.Arguments d = list_others (arguments_told nowhere) (arguments_told s) arguments_others (list_of d)
  expression_others part.Argument d = argument_others d
  expression_others part.Value d = body_others (codes "AttributeValue") d
  expression_others part.Designator d = body_others (codes "AttributeDesignator") d
  expression_others part.VariableReference d = body_others (codes "VariableReference") d
  expression_others part.Apply d = body_others (codes "Apply") d
  expression_others part.FunctionReference d = same_told (function_told d)
  expression_others p d = given_others p d

  target_part_others : (p : Part) (d : Data) → IsOfOthers (target_part_told p nowhere d) (target_part_told p s d)
  unfolding target_part_told
  target_part_others part.Target d = target_others d
  target_part_others part.AnyOfs d = list_others (any_ofs_told nowhere) (any_ofs_told s) any_ofs_others (list_of d)
  target_part_others part.AnyOf d = any_ofs_others (d ∷ [])
  target_part_others part.AllOfs d = list_others (all_ofs_told nowhere) (all_ofs_told s) all_ofs_others (list_of d)
  target_part_others part.AllOf d = all_ofs_others (d ∷ [])
  target_part_others part.Matches d = list_others (matches_told nowhere) (matches_told s) matches_others (list_of d)
  target_part_others part.Match d = matches_others (d ∷ [])
  target_part_others p d = expression_others p d

  -- so it is of each part but a definition
  part_others : (p : Part) (d : Data) → (p ≡ part.Definition → ⊥) → IsOfOthers (told p nowhere d) (told p s d)
  unfolding told
  part_others part.Document d other = same_told (first_fault (raw_of d))
  part_others part.Policy d other = same_told (policy_told d)
  part_others part.Set d other = same_told (set_told d)
  part_others part.Children d other = same_told (list_told children_told (list_of d))
  part_others part.Child d other = same_told (children_told (d ∷ []))
  part_others part.PolicyReference d other = same_told (reference_told kind.Policy d)
  part_others part.SetReference d other = same_told (reference_told kind.PolicySet d)
  part_others part.Rules d other = list_others (rules_told nowhere) (rules_told s) rules_others (list_of d)
  part_others part.Rule d other = rules_others (d ∷ [])
  part_others part.Definitions d other = same_told (list_told definitions_told (list_of d))
  part_others part.Definition d other = absurd (other refl)
  part_others p d other = target_part_others p d

  -- a part of which nothing is told in no policy has no fault of types
  pub fine_alone : (p : Part) (d : Data) → (p ≡ part.Definition → ⊥) → told p nowhere d ≡ None → is_faulty fault.«Type» p s d ≡ false
  fine_alone p d other none = false_from_ne_true (is_faulty fault.«Type» p s d) (λ h.
      let both = and_parts (is_fault fault.«Type» (told p s d)) (not (is_fault fault.«Type» (scope_told s))) h in
      let types : rank (told p s d) ≡ 8 = rank_of_fault fault.«Type» (told p s d) both.0 in
      let others : is_fault fault.«Type» (scope_told s) ≡ true = fault_of_rank fault.«Type» (scope_told s) (part_others p d other (ap rank none) types) in
      false≢true (sym (ap not others) ∙ both.1))

-- so it has none where it is seen to be fine
pub fine_there : (s : Scope) (p : Part) (d : Data) → IsFineAlone p d → false ≡ is_faulty fault.«Type» p s d
fine_there s p d fine = sym (fine_alone s p d fine.no_definition fine.is_fine)

pub seen_fine : (p : Part) (d : Data) → (p ≡ part.Definition → ⊥) → told p nowhere d ≡ None → IsFineAlone p d
seen_fine p d other none = record { no_definition = other; is_fine = none }
