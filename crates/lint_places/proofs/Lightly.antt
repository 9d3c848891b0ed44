-- A part of a clear scope has an early fault, whatever the definitions around it say.
use Rattle.std.proofs.Common.{◌≡◌, ℕ, suc, ◌<◌, ◌≤◌, min, List, [], ◌∷◌, map, Bool, true, false, not, ◌&&◌, Option, Some, None, Result, Ok, Err, bytes_eq, codes, refl, sym, ap, subst, ◌∙◌, inl, inr, arith}
use Rattle.std.specs.Prelude.{if◌then◌else◌}
use Rattle.std.proofs.lemmas.Bool.{cases_lt, false_from_ne_true}
use Rattle.std.proofs.lemmas.Bool.Decides.{nat_tests}
use Rattle.serde_json.specs.Data.{Data}
use Rattle.ent_json.specs.Objects.{one_member}
use Rattle.ent_policy.specs.Check.{fault_of}
use Rattle.ent_policy.specs.First.{first_of, place}
use Rattle.ent_policy.specs.Limits.{length_fault}
use Rattle.ent_policy.specs.Variables.{has_bad_variable}
use Rattle.ent_policy.specs.declared.fault.DocFault.{DocFault}
use Rattle.ent_policy.specs.declared.fault.DocFault.TheVariants as fault
use Rattle.ent_policy.specs.declared.document.Effect.TheVariants.{Permit}
use Rattle.ent_policy.specs.declared.raw.RawAssignment.{RawAssignment}
use Rattle.ent_policy.specs.declared.raw.RawDocument.{RawDocument}
use Rattle.ent_policy.specs.declared.raw.RawExpression.{RawExpression}
use Rattle.ent_policy.specs.declared.raw.RawGivenExpressions.{RawGivenExpressions}
use Rattle.ent_policy.specs.declared.raw.RawRule.{RawRule}
use Rattle.ent_policy.specs.declared.raw.RawTarget.{RawTarget}
use Rattle.ent_policy.specs.declared.raw.RawVariableDefinition.{RawVariableDefinition}
use Rattle.ent_polform.specs.Expressions.{expression_named, expression_of}
use Rattle.ent_polform.specs.Form.{rule_of}
use Rattle.ent_polform.specs.Given.{assignment_of, given_by}
use Rattle.ent_polform.specs.Targets.{match_of, one_all_of, one_any_of, target_of}
use Rattle.lint_places.specs.Places.{is_fault, is_faulty}
use Rattle.lint_places.specs.Told.{Scope, advice_told, all_ofs_told, any_ofs_told, argument_by, argument_told, arguments_told, assignments_told, body_told, condition_told, each, everything, expression_told, function_told, given_told, in_policy, list_of, list_told, matches_told, nothing_given, obligations_told, of_advice, of_all_ofs, of_any_ofs, of_assignments, of_condition, of_expression, of_matches, of_obligations, of_rules, of_target, plain_policy, rules_told, scope_told, target_part_told, target_told, told, variables_in, variables_of, variables_told, whole_told}
use Rattle.lint_places.specs.declared.part.Part.{Part}
use Rattle.lint_places.specs.declared.part.Part.TheVariants as part
use Rattle.lint_places.specs.proofs_only.Clear.{AreFree, IsClear, bare, light}
use Rattle.lint_places.specs.proofs_only.Suspects.{names_of}
use Rattle.lint_places.proofs.Judged.{bad_where_not_late, bad_with_either, beside, good_where_late, local, rank_of_policy, sound_in_policy, stored, stored_ids, stored_policy, whole, whole_bad, whole_is_late}
use Rattle.lint_places.proofs.Named.{named, same_names}
use Rattle.lint_places.proofs.Ranks.{rank, rank_earlier, rank_of_fault, rank_of_later, same_fault}
use Rattle.lint_places.proofs.Resolved.{AreSound}

-- two are told alike up to the k-th place
abbrev Alike : ℕ → Option DocFault → Option DocFault → Type 0
Alike k o p = min (suc k) (rank o) ≡ min (suc k) (rank p)

-- the k-th place is the least of both or of neither
least_alike : (k b v w v' w' : ℕ) → k < v → k < v' → k ≤ w → k ≤ w' → (w ≡ k → w' ≡ k) → (w' ≡ k → w ≡ k) → min (suc k) (min b (min v w)) ≡ min (suc k) (min b (min v' w'))
least_alike k b v w v' w' lv lv' lw lw' h g =
    elim (cases_lt k w) [
      | inl later ↦ elim (cases_lt k w') [
        | inl later' ↦ omega (arith, lv, lv', later, later')
        | inr here' ↦ let e : w ≡ k = g (omega arith) in absurd (omega (arith, later, e))
      ]
      | inr here ↦ let e : w' ≡ k = h (omega arith) in omega (arith, lv, lv', here, lw, e)
    ]

-- ---- what is known of definitions up to the k-th place

-- two lists of definitions of which nothing is told up to the fault, and which name the same variables if it is one of those
record AreLike (f : DocFault) (vs ws : List RawVariableDefinition) : Type 0 where
  early : place f ≤ 5
  later_first : place f < local vs
  later_second : place f < local ws
  same : (target : RawTarget) (rules : List RawRule) (given : RawGivenExpressions) → place f ≡ 5
      → has_bad_variable (stored_policy target rules given vs) ≡ has_bad_variable (stored_policy target rules given ws)

module _ (f : DocFault) (vs ws : List RawVariableDefinition) (like : AreLike f vs ws) (target : RawTarget) (rules : List RawRule) (given : RawGivenExpressions) where
  to_second : whole (stored_policy target rules given vs) ≡ place f → whole (stored_policy target rules given ws) ≡ place f
  to_second e =
      let five : place f ≡ 5 = omega (arith, like.early, whole_is_late (stored_policy target rules given vs), e) in
      whole_bad (stored_policy target rules given ws) (sym (like.same target rules given five) ∙ bad_where_not_late (stored_policy target rules given vs) (e ∙ five)) ∙ sym five

  to_first : whole (stored_policy target rules given ws) ≡ place f → whole (stored_policy target rules given vs) ≡ place f
  to_first e =
      let five : place f ≡ 5 = omega (arith, like.early, whole_is_late (stored_policy target rules given ws), e) in
      whole_bad (stored_policy target rules given vs) (like.same target rules given five ∙ bad_where_not_late (stored_policy target rules given ws) (e ∙ five)) ∙ sym five

  -- so policies of both are told alike
  policies_alike : Alike (place f) (fault_of (plain_policy target rules given vs)) (fault_of (plain_policy target rules given ws))
  policies_alike =
      ap (min (suc (place f))) (rank_of_policy target rules given vs)
      ∙ least_alike (place f) (beside target rules given) (local vs) (whole (stored_policy target rules given vs)) (local ws) (whole (stored_policy target rules given ws))
      like.later_first like.later_second
      (omega (arith, like.early, whole_is_late (stored_policy target rules given vs))) (omega (arith, like.early, whole_is_late (stored_policy target rules given ws))) to_second to_first
      ∙ sym (ap (min (suc (place f))) (rank_of_policy target rules given ws))

-- what nothing is told of up to the fault
record IsLate (f : DocFault) (vs : List RawVariableDefinition) : Type 0 where
  by_itself : place f < local vs
  as_whole : place f < whole (stored_policy everything [] nothing_given vs)

late : (f : DocFault) (vs : List RawVariableDefinition) → AreFree f vs → IsLate f vs
unfolding of_rules
late f vs free =
    let above : place f < min (beside everything [] nothing_given) (min (local vs) (whole (stored_policy everything [] nothing_given vs))) =
    subst (λ n. place f < n) (rank_of_policy everything [] nothing_given vs) (rank_of_later f (fault_of (plain_policy everything [] nothing_given vs)) free) in
    record { by_itself = omega (arith, above); as_whole = omega (arith, above) }

sound : (f : DocFault) (vs : List RawVariableDefinition) → IsLate f vs → place f ≡ 5 → AreSound (stored vs)
sound f vs l five =
    sound_in_policy everything [] nothing_given vs (good_where_late (stored_policy everything [] nothing_given vs) (subst (λ k. k < whole (stored_policy everything [] nothing_given vs)) five l.as_whole))

-- definitions that have the same names
like_names : (f : DocFault) (vs ws : List RawVariableDefinition) → place f ≤ 5 → AreFree f vs → AreFree f ws → (place f ≡ 5 → names_of vs ≡ names_of ws) → AreLike f vs ws
like_names f vs ws early a b names =
    let first = late f vs a in
    let second = late f ws b in
    record {
      early = early;
      later_first = first.by_itself;
      later_second = second.by_itself;
      same = λ target rules given five. bad_with_either target rules given vs ws (sound f vs first five) (sound f ws second five) (stored_ids vs ∙ names five ∙ sym (stored_ids ws));
    }

-- ---- parts

module _ (f : DocFault) (s t : Scope) (vs ws : List RawVariableDefinition) (like : AreLike f vs ws) (first : variables_in s ≡ Ok vs) (second : variables_in t ≡ Ok ws) where
  -- what is read is judged alike among the definitions of both
  module _ {A : Type 0} (of : A → List RawVariableDefinition → RawDocument) (same : (x : A) → Alike (place f) (fault_of (of x vs)) (fault_of (of x ws))) where
    in_both : (read : Result A DocFault) → Alike (place f) (in_policy of s read) (in_policy of t read)
    in_both (Err e) = refl
    in_both (Ok x) = rw (first, second) (same x)

  list_alike : (g h : List Data → Option DocFault) → ((ds : List Data) → Alike (place f) (g ds) (h ds)) → (o : Option (List Data)) → Alike (place f) (list_told g o) (list_told h o)
  list_alike g h same None = refl
  list_alike g h same (Some ds) = same ds

  rules_alike : (ds : List Data) → Alike (place f) (rules_told s ds) (rules_told t ds)
  unfolding rules_told of_rules
  rules_alike ds = in_both of_rules (λ rs. policies_alike f vs ws like everything rs nothing_given) (each rule_of ds)

  target_alike : (d : Data) → Alike (place f) (target_told s d) (target_told t d)
  unfolding target_told of_target
  target_alike d = in_both of_target (λ x. policies_alike f vs ws like x [] nothing_given) (target_of d)

  any_ofs_alike : (ds : List Data) → Alike (place f) (any_ofs_told s ds) (any_ofs_told t ds)
  unfolding any_ofs_told of_any_ofs of_target
  any_ofs_alike ds = in_both of_any_ofs (λ x. policies_alike f vs ws like (record { any_of = x }) [] nothing_given) (each one_any_of ds)

  all_ofs_alike : (ds : List Data) → Alike (place f) (all_ofs_told s ds) (all_ofs_told t ds)
  unfolding all_ofs_told of_all_ofs of_any_ofs of_target
  all_ofs_alike ds = in_both of_all_ofs (λ x. policies_alike f vs ws like (record { any_of = record { all_of = x } ∷ [] }) [] nothing_given) (each one_all_of ds)

  matches_alike : (ds : List Data) → Alike (place f) (matches_told s ds) (matches_told t ds)
  unfolding matches_told of_matches of_all_ofs of_any_ofs of_target
  matches_alike ds = in_both of_matches (λ x. policies_alike f vs ws like (record { any_of = record { all_of = record { matches = x } ∷ [] } ∷ [] }) [] nothing_given) (each match_of ds)

  condition_alike : (d : Data) → Alike (place f) (condition_told s d) (condition_told t d)
  unfolding condition_told of_condition of_rules
  condition_alike d = in_both of_condition (λ x. policies_alike f vs ws like everything (record { id = codes "-"; effect = Permit; target = everything; condition = Some x; given = nothing_given } ∷ []) nothing_given) (expression_of d)

  obligations_alike : (ds : List Data) → Alike (place f) (obligations_told s ds) (obligations_told t ds)
  unfolding obligations_told of_obligations
  obligations_alike ds = in_both of_obligations (λ x. policies_alike f vs ws like everything [] (record { obligations = x; advice = [] })) (each (given_by (codes "ObligationId") (codes "FulfillOn")) ds)

  advice_alike : (ds : List Data) → Alike (place f) (advice_told s ds) (advice_told t ds)
  unfolding advice_told of_advice
  advice_alike ds = in_both of_advice (λ x. policies_alike f vs ws like everything [] (record { obligations = []; advice = x })) (each (given_by (codes "AdviceId") (codes "AppliesTo")) ds)

  assigned_alike : (x : List RawAssignment) → Alike (place f) (fault_of (of_assignments x vs)) (fault_of (of_assignments x ws))
  unfolding of_assignments of_obligations
  assigned_alike x = policies_alike f vs ws like everything [] (record { obligations = record { id = codes "-"; effect = Permit; assignments = x } ∷ []; advice = [] })

  assignments_alike : (ds : List Data) → Alike (place f) (assignments_told s ds) (assignments_told t ds)
  unfolding assignments_told
  assignments_alike ds = in_both of_assignments assigned_alike (each assignment_of ds)

  expressed_alike : (x : RawExpression) → Alike (place f) (fault_of (of_expression x vs)) (fault_of (of_expression x ws))
  unfolding of_expression
  expressed_alike x = assigned_alike (record { attribute = codes "-"; category = None; issuer = None; expression = x } ∷ [])

  body_alike : (key : List ℕ) (d : Data) → Alike (place f) (body_told key s d) (body_told key t d)
  unfolding body_told
  body_alike key d = in_both of_expression expressed_alike (expression_named expression_of key d)

  whole_alike : (d : Data) → Alike (place f) (whole_told s d) (whole_told t d)
  unfolding whole_told
  whole_alike d = in_both of_expression expressed_alike (expression_of d)

  argument_alike : (d : Data) → Alike (place f) (argument_told s d) (argument_told t d)
  unfolding argument_told
  argument_alike d = by_member (one_member d)
    where
      by_name : (m : Data) (b : Bool) → Alike (place f) (if b then function_told m else whole_told s d) (if b then function_told m else whole_told t d)
      by_name m true = refl
      by_name m false = whole_alike d

      by_member : (o : Option (List ℕ × Data)) → Alike (place f) (argument_by s d o) (argument_by t d o)
      by_member None = refl
      by_member (Some m) = by_name m.1 (bytes_eq m.0 (codes "Function"))

  firsts_alike : (ds : List Data) → Alike (place f) (first_of (map (argument_told s) ds)) (first_of (map (argument_told t) ds))
  firsts_alike [] = refl
  firsts_alike (d ∷ ds) = rw (rank_earlier (argument_told s d) (first_of (map (argument_told s) ds)), rank_earlier (argument_told t d) (first_of (map (argument_told t) ds))) (omega (arith, argument_alike d, firsts_alike ds))

  arguments_alike : (ds : List Data) → Alike (place f) (arguments_told s ds) (arguments_told t ds)
  unfolding arguments_told
  arguments_alike ds = rw (rank_earlier (length_fault ds) (first_of (map (argument_told s) ds)), rank_earlier (length_fault ds) (first_of (map (argument_told t) ds))) (omega (arith, firsts_alike ds))

  given_alike : (p : Part) (d : Data) → Alike (place f) (given_told p s d) (given_told p t d)
  unfolding given_told
  given_alike part.Obligations d = list_alike (obligations_told s) (obligations_told t) obligations_alike (list_of d)
  given_alike part.Obligation d = obligations_alike (d ∷ [])
  given_alike part.Advices d = list_alike (advice_told s) (advice_told t) advice_alike (list_of d)
  given_alike part.Advice d = advice_alike (d ∷ [])
  given_alike part.Assignments d = list_alike (assignments_told s) (assignments_told t) assignments_alike (list_of d)
  given_alike part.Assignment d = assignments_alike (d ∷ [])
  given_alike p d = refl

  expression_alike : (p : Part) (d : Data) → Alike (place f) (expression_told p s d) (expression_told p t d)
  unfolding expression_told
  expression_alike part.Condition d = condition_alike d
  expression_alike part.Expression d = whole_alike d
  expression_alike part.Arguments d = list_alike (arguments_told s) (arguments_told t) arguments_alike (list_of d)
  expression_alike part.Argument d = argument_alike d
  expression_alike part.Value d = body_alike (codes "AttributeValue") d
  expression_alike part.Designator d = body_alike (codes "AttributeDesignator") d
  expression_alike part.VariableReference d = body_alike (codes "VariableReference") d
  expression_alike part.Apply d = body_alike (codes "Apply") d
  expression_alike part.FunctionReference d = refl
  expression_alike p d = given_alike p d

  target_part_alike : (p : Part) (d : Data) → Alike (place f) (target_part_told p s d) (target_part_told p t d)
  unfolding target_part_told
  target_part_alike part.Target d = target_alike d
  target_part_alike part.AnyOfs d = list_alike (any_ofs_told s) (any_ofs_told t) any_ofs_alike (list_of d)
  target_part_alike part.AnyOf d = any_ofs_alike (d ∷ [])
  target_part_alike part.AllOfs d = list_alike (all_ofs_told s) (all_ofs_told t) all_ofs_alike (list_of d)
  target_part_alike part.AllOf d = all_ofs_alike (d ∷ [])
  target_part_alike part.Matches d = list_alike (matches_told s) (matches_told t) matches_alike (list_of d)
  target_part_alike part.Match d = matches_alike (d ∷ [])
  target_part_alike p d = expression_alike p d

  -- each part but a definition is told alike
  part_alike : (p : Part) (d : Data) → (p ≡ part.Definition → ⊥) → Alike (place f) (told p s d) (told p t d)
  unfolding told
  part_alike part.Document d other = refl
  part_alike part.Policy d other = refl
  part_alike part.Set d other = refl
  part_alike part.Children d other = refl
  part_alike part.Child d other = refl
  part_alike part.PolicyReference d other = refl
  part_alike part.SetReference d other = refl
  part_alike part.Rules d other = list_alike (rules_told s) (rules_told t) rules_alike (list_of d)
  part_alike part.Rule d other = rules_alike (d ∷ [])
  part_alike part.Definitions d other = refl
  part_alike part.Definition d other = absurd (other refl)
  part_alike p d other = target_part_alike p d

-- ---- clear scopes

-- for a fault of variables the names are the same
names_too : (f : DocFault) (s : Scope) (vs ws : List RawVariableDefinition) → variables_in s ≡ Ok vs → variables_in (light f s) ≡ Ok ws
    → place f < local vs → place f < local ws → place f ≡ 5 → names_of vs ≡ names_of ws
unfolding variables_in variables_of
names_too fault.Variable s vs ws a b l m e = same_names s.standing (bare s).standing 0 s.definitions vs ws a b (named vs l) (named ws m)
names_too f s vs ws a b l m e = absurd (omega (arith, e))

-- the definitions of a clear scope, and those of the scope in its place
module _ (f : DocFault) (s : Scope) (clear : IsClear f s) where
  alike_fault : (o p : Option DocFault) → Alike (place f) o p → is_fault f o ≡ is_fault f p
  alike_fault o p e = same_fault f o p (λ h. omega (arith, e, h)) (λ h. omega (arith, e, h))

  scope_is_late : is_fault f (scope_told s) ≡ false
  unfolding scope_told of_rules
  scope_is_late = at s.definitions
    where
      free : is_fault f (fault_of (of_rules [] clear.free.variables)) ≡ false
      free = false_from_ne_true (is_fault f (fault_of (of_rules [] clear.free.variables))) (λ h. absurd (omega (
        arith,
        rank_of_fault f (fault_of (of_rules [] clear.free.variables)) h,
        rank_of_later f (fault_of (of_rules [] clear.free.variables)) clear.free.are_free,
      )))

      at : (ds : List Data) → is_fault f (variables_told ds s) ≡ false
      at [] = refl
      at (d ∷ ds) = rw clear.free.are_read free

  -- a part has the fault where it is told in the scope that takes its place
  pub in_place : (p : Part) (d : Data) → (p ≡ part.Definition → ⊥) → is_faulty f p s d ≡ is_fault f (told p (light f s) d)
  in_place p d own =
      let early : place f ≤ 5 = let h = clear.early in grind (arith, nat_tests) in
      let first = late f clear.free.variables clear.free.are_free in
      let second = late f clear.light_free.variables clear.light_free.are_free in
      let like = like_names f clear.free.variables clear.light_free.variables early clear.free.are_free clear.light_free.are_free
      (names_too f s clear.free.variables clear.light_free.variables clear.free.are_read clear.light_free.are_read first.by_itself second.by_itself) in
      let same = alike_fault (told p s d) (told p (light f s) d)
      (part_alike f s (light f s) clear.free.variables clear.light_free.variables like clear.free.are_read clear.light_free.are_read p d own) in
      rw (same, scope_is_late) (and_true (is_fault f (told p (light f s) d)))
    where
      and_true : (b : Bool) → (b && not false) ≡ b
      and_true true = refl
      and_true false = refl
