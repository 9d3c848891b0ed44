-- Variables that lead to an end, in one list of definitions and in another.
use Rattle.std.proofs.Common.{◌≡◌, ℕ, zero, suc, List, [], ◌∷◌, ◌++◌, length, Bool, true, false, not, ◌||◌, Option, Some, None, is_some, refl, sym, ap, ◌∙◌, bytes_eq, inl, inr}
use mathlib.Core.Logic.{◌⊎◌}
use Rattle.std.proofs.lemmas.Bool.{and_parts, false≢true, or_parts}
use Rattle.std.proofs.lemmas.List.Elements.{All-weaker}
use Rattle.std.specs.List.{All, list_all}
use Rattle.ent_policy.specs.declared.document.Policy.{Policy}
use Rattle.ent_policy.specs.declared.expression.VariableDefinition.{VariableDefinition}
use Rattle.ent_policy.specs.Limits.{has_double, is_among}
use Rattle.ent_policy.specs.Variables.{defined, definition_of, followed, has_bad_variable, ids_of, is_resolved, used, uses_only, variables}
use Rattle.ent_policy.proofs.Ending.{ends_by_definitions}
use Rattle.ent_policy.proofs.Ids.{same_id}
use Rattle.ent_policy.proofs.References.{all_agree, all_among, all_found, all_mono, defined_ids, followed_up, found_has}
use Rattle.lint_places.proofs.Ranks.{same_test}

not_false : (b : Bool) → not b ≡ false → b ≡ true
not_false true h = refl
not_false false h = absurd (false≢true (sym h))

-- definitions with no id twice, each of which leads to an end
pub record AreSound (ds : List VariableDefinition) : Type 0 where
  pub once : has_double (ids_of ds) ≡ false
  pub resolved : list_all (is_resolved ds) (ids_of ds) ≡ true

-- those of a policy of which no variable is bad are
pub sound_variables : (p : Policy) → has_bad_variable p ≡ false → AreSound p.variables × (list_all (is_resolved p.variables) (used p) ≡ true)
unfolding has_bad_variable
sound_variables p h =
    let a = or_parts (has_double (ids_of p.variables) || not (list_all (is_resolved p.variables) (ids_of p.variables))) (not (list_all (is_resolved p.variables) (used p))) h in
    let b = or_parts (has_double (ids_of p.variables)) (not (list_all (is_resolved p.variables) (ids_of p.variables))) a.0 in
    (record { once = b.0; resolved = not_false (list_all (is_resolved p.variables) (ids_of p.variables)) b.1 }, not_false (list_all (is_resolved p.variables) (used p)) a.1)

-- among such definitions a policy is bad only by what it uses
pub bad_by_use : (p : Policy) → AreSound p.variables → has_bad_variable p ≡ not (list_all (is_resolved p.variables) (used p))
unfolding has_bad_variable
bad_by_use p s = rw (s.once, s.resolved) refl

-- a variable that leads to an end is defined
pub defined_where_resolved : (ds : List VariableDefinition) (n : ℕ) (q : List ℕ) → followed uses_only false ds n q ≡ true → is_among (ids_of ds) q ≡ true
defined_where_resolved ds zero q h = absurd (false≢true h)
defined_where_resolved ds (suc n) q h = sym (defined_ids ds q) ∙ at (definition_of ds q) h
  where
    at : (o : Option VariableDefinition) → defined (uses_only (followed uses_only false ds n)) false o ≡ true → is_some o ≡ true
    at None h = absurd (false≢true h)
    at (Some d) h = refl

-- where each definition leads to an end, a variable does if it is defined
pub resolved_is_defined : (ds : List VariableDefinition) → AreSound ds → (q : List ℕ) → is_resolved ds q ≡ is_among (ids_of ds) q
resolved_is_defined ds s q = same_test (is_resolved ds q) (is_among (ids_of ds) q) (defined_where_resolved ds (length ds) q) (all_among (is_resolved ds) (ids_of ds) q s.resolved)

-- so two policies with the same ids are bad together
pub bad_together : (p r : Policy) → AreSound p.variables → AreSound r.variables → ids_of p.variables ≡ ids_of r.variables → used p ≡ used r → has_bad_variable p ≡ has_bad_variable r
bad_together p r s t same uses =
    let here : list_all (is_resolved p.variables) (used p) ≡ list_all (is_resolved r.variables) (used p) =
    all_agree (is_resolved p.variables) (is_resolved r.variables) (used p)
    (λ q m. resolved_is_defined p.variables s q ∙ ap (λ ids. is_among ids q) same ∙ sym (resolved_is_defined r.variables t q)) in
    bad_by_use p s ∙ ap not (here ∙ ap (list_all (is_resolved r.variables)) uses) ∙ sym (bad_by_use r t)

-- each of them uses only variables that are defined
pub uses_defined : (ds : List VariableDefinition) → AreSound ds → All (λ d. uses_only (is_among (ids_of ds)) d.expression ≡ true) ds
uses_defined ds s = All-weaker (λ d. definition_of ds d.id ≡ Some d) (λ d. uses_only (is_among (ids_of ds)) d.expression ≡ true) each ds (all_found ds s.once)
  where
    each : (d : VariableDefinition) → definition_of ds d.id ≡ Some d → uses_only (is_among (ids_of ds)) d.expression ≡ true
    each d found =
        let known : is_resolved ds d.id ≡ true = all_among (is_resolved ds) (ids_of ds) d.id s.resolved (sym (defined_ids ds d.id) ∙ ap is_some found) in
        let uses : uses_only (is_resolved ds) d.expression ≡ true = rw found at (followed_up ds (length ds) d.id known) in
        all_mono (is_resolved ds) (is_among (ids_of ds)) (variables d.expression) (defined_where_resolved ds (length ds)) uses

-- ---- one list beside another

-- a definition says what another one of its id says, or uses no variable
pub record IsUnder (d e : VariableDefinition) : Type 0 where
  pub same_id : d.id ≡ e.id
  pub says : (d.expression ≡ e.expression) ⊎ (variables d.expression ≡ [])

-- of two lists each does
abbrev pub AreUnder : List VariableDefinition → List VariableDefinition → Type 0
AreUnder [] [] = Unit {0}
AreUnder [] (e ∷ es) = ⊥
AreUnder (d ∷ ds) [] = ⊥
AreUnder (d ∷ ds) (e ∷ es) = IsUnder d e × AreUnder ds es

pub under_ids : (ds es : List VariableDefinition) → AreUnder ds es → ids_of ds ≡ ids_of es
under_ids [] [] u = refl
under_ids [] (e ∷ es) u = absurd u
under_ids (d ∷ ds) [] u = absurd u
under_ids (d ∷ ds) (e ∷ es) u = rw (u.0.same_id, under_ids ds es u.1) refl

-- what is found for an id in both
record IsBoth (ds es : List VariableDefinition) (q : List ℕ) : Type 0 where
  first : VariableDefinition
  second : VariableDefinition
  found_first : definition_of ds q ≡ Some first
  found_second : definition_of es q ≡ Some second
  under : IsUnder first second

here_both : (d e : VariableDefinition) (ds es : List VariableDefinition) (q : List ℕ) → IsUnder d e → bytes_eq e.id q ≡ true → IsBoth (d ∷ ds) (e ∷ es) q
here_both d e ds es q u is =
    let same : bytes_eq d.id q ≡ true = ap (λ id. bytes_eq id q) u.same_id ∙ is in
    record { first = d; second = e; found_first = rw same refl; found_second = rw is refl; under = u }

later_both : (d e : VariableDefinition) (ds es : List VariableDefinition) (q : List ℕ) → IsUnder d e → bytes_eq e.id q ≡ false → IsBoth ds es q → IsBoth (d ∷ ds) (e ∷ es) q
later_both d e ds es q u is b =
    let same : bytes_eq d.id q ≡ false = ap (λ id. bytes_eq id q) u.same_id ∙ is in
    record { first = b.first; second = b.second; found_first = rw same b.found_first; found_second = rw is b.found_second; under = b.under }

both_found : (ds es xs : List VariableDefinition) → AreUnder ds es → (q : List ℕ) → is_among (ids_of es) q ≡ true → IsBoth ds (es ++ xs) q
both_found [] [] xs u q m = absurd (false≢true m)
both_found [] (e ∷ es) xs u q m = absurd u
both_found (d ∷ ds) [] xs u q m = absurd u
both_found (d ∷ ds) (e ∷ es) xs u q m = at (both_found ds es xs u.1 q) (bytes_eq e.id q) refl
  where
    at : (is_among (ids_of es) q ≡ true → IsBoth ds (es ++ xs) q) → (b : Bool) → bytes_eq e.id q ≡ b → IsBoth (d ∷ ds) (e ∷ (es ++ xs)) q
    at more true is = here_both d e ds (es ++ xs) q u.0 is
    at more false is = later_both d e ds (es ++ xs) q u.0 is (more (sym (ap (λ b. b || is_among (ids_of es) q) (same_id.symm q e.id ∙ is)) ∙ m))

all_both : (f g h : List ℕ → Bool) (ids : List (List ℕ)) → ((q : List ℕ) → f q ≡ true → g q ≡ true → h q ≡ true) → list_all f ids ≡ true → list_all g ids ≡ true → list_all h ids ≡ true
all_both f g h [] k a b = refl
all_both f g h (q ∷ ids) k a b =
    let p = and_parts (f q) (list_all f ids) a in
    let r = and_parts (g q) (list_all g ids) b in
    rw (k q p.0 r.0, all_both f g h ids k p.1 r.1) refl

module _ (ds es xs : List VariableDefinition) (under : AreUnder ds es) (known : All (λ d. uses_only (is_among (ids_of es)) d.expression ≡ true) ds) where
  -- what leads to an end in the second list beside others does so in the first
  followed_too : (n : ℕ) (q : List ℕ) → is_among (ids_of es) q ≡ true → followed uses_only false (es ++ xs) n q ≡ true → followed uses_only false ds n q ≡ true
  followed_too zero q m h = absurd (false≢true h)
  followed_too (suc n) q m h = at (followed_too n) (both_found ds es xs under q m)
    where
      at : ((v : List ℕ) → is_among (ids_of es) v ≡ true → followed uses_only false (es ++ xs) n v ≡ true → followed uses_only false ds n v ≡ true)
          → IsBoth ds (es ++ xs) q → followed uses_only false ds (suc n) q ≡ true
      at less b =
          let there : uses_only (followed uses_only false (es ++ xs) n) b.second.expression ≡ true = rw b.found_second at h in
          let uses = (found_has (λ d. uses_only (is_among (ids_of es)) d.expression ≡ true) ds q b.first known b.found_first).0 in
          let here : uses_only (followed uses_only false ds n) b.first.expression ≡ true = elim b.under.says [
            | inl same ↦ all_both (is_among (ids_of es)) (followed uses_only false (es ++ xs) n) (followed uses_only false ds n) (variables b.first.expression) less uses
                (ap (uses_only (followed uses_only false (es ++ xs) n)) same ∙ there)
            | inr none ↦ ap (list_all (followed uses_only false ds n)) none
          ] in
          rw b.found_first here

  -- so each does
  pub sound_under : AreSound (es ++ xs) → list_all (is_resolved ds) (ids_of ds) ≡ true
  sound_under s = all_among_pass (is_resolved ds) (ids_of ds) (λ q m.
      let among : is_among (ids_of es) q ≡ true = sym (ap (λ ids. is_among ids q) (under_ids ds es under)) ∙ m in
      let both = both_found ds es xs under q among in
      let whole : is_among (ids_of (es ++ xs)) q ≡ true = sym (defined_ids (es ++ xs) q) ∙ ap is_some both.found_second in
      let there : is_resolved (es ++ xs) q ≡ true = all_among (is_resolved (es ++ xs)) (ids_of (es ++ xs)) q s.resolved whole in
      ends_by_definitions ds (length (es ++ xs)) q (followed_too (length (es ++ xs)) q among there))
    where
      none_left : (ids : List (List ℕ)) → list_all (λ q. true) ids ≡ true
      none_left [] = refl
      none_left (q ∷ ids) = none_left ids

      all_among_pass : (f : List ℕ → Bool) (ids : List (List ℕ)) → ((q : List ℕ) → is_among ids q ≡ true → f q ≡ true) → list_all f ids ≡ true
      all_among_pass f ids h = all_agree f (λ q. true) ids h ∙ none_left ids
