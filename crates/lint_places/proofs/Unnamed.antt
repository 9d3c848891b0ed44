-- Expressions that use no variable have the same type among any definitions.
use Rattle.std.proofs.Common.{◌≡◌, ℕ, List, [], ◌∷◌, map, Bool, true, false, Option, Some, None, option_and_then, option_map, refl, sym, ap, ◌∙◌, subst, length}
use Rattle.std.proofs.lemmas.Bool.{and_parts, false≢true}
use Rattle.std.proofs.lemmas.List.Folds.{list_all-append}
use Rattle.std.specs.List.{flat_map, list_all}
use Rattle.ent_functions.specs.declared.types.ArgType.{ArgType}
use Rattle.ent_functions.specs.Types.{result_type_of}
use Rattle.ent_policy.specs.declared.expression.Expression.{Expression}
use Rattle.ent_policy.specs.declared.expression.Expression.TheOpen.{Expression-F}
use Rattle.ent_policy.specs.declared.expression.Expression.TheFolds.{fold-roll-Expression, ind-Expression, map-Expression}
use Rattle.ent_policy.specs.declared.expression.Expression.TheViews.{roll-Expression}
use Rattle.ent_policy.specs.declared.expression.VariableDefinition.{VariableDefinition}
use Rattle.ent_policy.specs.Typing.{all_typed, type_in, type_step, type_with, variable_type}
use Rattle.ent_policy.specs.Variables.{is_resolved, uses_only, variables, variables_step}

same_types : (o p : Option ArgType) (os ps : List (Option ArgType)) → o ≡ p → all_typed os ≡ all_typed ps → all_typed (o ∷ os) ≡ all_typed (p ∷ ps)
same_types o None os ps e f = rw e refl
same_types o (Some t) os ps e f = rw e (ap (option_map (λ ts. t ∷ ts)) f)

module _ (r s : List ℕ → Option ArgType) (passes : List ℕ → Bool) (same : (q : List ℕ) → passes q ≡ true → r q ≡ s q) where
  abbrev Agree : Expression → Type 0
  Agree e = uses_only passes e ≡ true → type_with r e ≡ type_with s e

  -- what a pair is of
  abbrev first : (e : Expression) × Agree e → Expression
  first e = e.0

  all_agree : (es : List ((e : Expression) × Agree e)) → list_all passes (flat_map (λ ids. ids) (map variables (map first es))) ≡ true
      → all_typed (map (type_with r) (map first es)) ≡ all_typed (map (type_with s) (map first es))
  all_agree [] h = refl
  all_agree (e ∷ es) h =
      let p = and_parts (list_all passes (variables e.0)) (list_all passes (flat_map (λ ids. ids) (map variables (map first es))))
      (sym (list_all-append passes (variables e.0) (flat_map (λ ids. ids) (map variables (map first es)))) ∙ h) in
      same_types (type_with r e.0) (type_with s e.0) (map (type_with r) (map first es)) (map (type_with s) (map first es)) (e.1 p.0) (all_agree es p.1)

  layer : (y : Expression-F ((e : Expression) × Agree e)) → Agree (roll-Expression (map-Expression ((e : Expression) × Agree e) Expression first y))
  layer y h =
      fold-roll-Expression (Option ArgType) (type_step r) x
      ∙ steps y (sym (ap (list_all passes) (fold-roll-Expression (List (List ℕ)) variables_step x)) ∙ h)
      ∙ sym (fold-roll-Expression (Option ArgType) (type_step s) x)
    where
      x : Expression-F Expression
      x = map-Expression ((e : Expression) × Agree e) Expression first y

      steps : (y : Expression-F ((e : Expression) × Agree e))
          → list_all passes (variables_step (map-Expression Expression (List (List ℕ)) variables (map-Expression ((e : Expression) × Agree e) Expression first y))) ≡ true
          → type_step r (map-Expression Expression (Option ArgType) (type_with r) (map-Expression ((e : Expression) × Agree e) Expression first y))
          ≡ type_step s (map-Expression Expression (Option ArgType) (type_with s) (map-Expression ((e : Expression) × Agree e) Expression first y))
      steps (Expression-F.Value v) h = refl
      steps (Expression-F.Designator d) h = refl
      steps (Expression-F.Variable id) h = same id (and_parts (passes id) true h).0
      steps (Expression-F.Apply f es) h = ap (option_and_then (result_type_of f)) (all_agree es h)
      steps (Expression-F.Function f) h = refl

  pub types_agree : (e : Expression) → Agree e
  types_agree = ind-Expression Agree (λ x y is. subst (λ z. Agree (roll-Expression z)) is (layer y))

-- no variable leads to an end where none is defined
abbrev pub no_variable : List (List ℕ) → Bool
no_variable ids = list_all (is_resolved []) ids

-- an expression without one has the same type among any definitions
pub type_alone : (ds : List VariableDefinition) (e : Expression) → no_variable (variables e) ≡ true → type_in ds e ≡ type_in [] e
type_alone ds = types_agree (variable_type ds (length ds)) (variable_type [] 0) (is_resolved []) (λ q p. absurd (false≢true p))
