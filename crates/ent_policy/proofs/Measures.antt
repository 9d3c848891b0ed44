-- What is measured of an expression depends on what is measured of its variables, up to the limits.
use Rattle.std.proofs.Common.{◌≡◌, ℕ, ◌+◌, max, min, List, [], ◌∷◌, map, Bool, true, Option, Some, None, option_and_then, option_map, refl, sym, ap, ◌∙◌, subst, arith}
use Rattle.std.proofs.lemmas.Bool.{and_parts}
use Rattle.std.proofs.lemmas.List.Folds.{list_all-append}
use Rattle.std.proofs.lemmas.List.Sums.{sum_by-cons}
use Rattle.std.specs.List.{flat_map, list_all, sum}
use Rattle.ent_functions.specs.declared.function.Function.{Function}
use Rattle.ent_functions.specs.declared.types.ArgType.{ArgType}
use Rattle.ent_functions.specs.Types.{result_type_of}
use Rattle.ent_policy.specs.declared.expression.Expression.{Expression}
use Rattle.ent_policy.specs.declared.expression.Expression.TheVariants as expressions
use Rattle.ent_policy.specs.declared.expression.Expression.TheOpen.{Expression-F}
use Rattle.ent_policy.specs.declared.expression.Expression.TheFolds.{fold-roll-Expression, ind-Expression, map-Expression}
use Rattle.ent_policy.specs.declared.expression.Expression.TheViews.{roll-Expression}
use Rattle.ent_policy.specs.declared.measure.Measured.{Measured}
use Rattle.ent_policy.specs.Depths.{depth_step, depth_with, greatest}
use Rattle.ent_policy.specs.proofs_only.Measure.{measured_with}
use Rattle.ent_policy.specs.Sizes.{nodes_step, nodes_with}
use Rattle.ent_policy.specs.Typing.{all_typed, type_step, type_with}
use Rattle.ent_policy.specs.Variables.{uses_only, variables, variables_step}

-- up to the limits
abbrev pub cut : Measured → Measured
cut m = record { nodes = min 65537 m.nodes; depth = min 17 m.depth; datatype = m.datatype }

pub alike : {n m d k : ℕ} {t u : Option ArgType} → n ≡ m → d ≡ k → t ≡ u → ◌≡◌ {A = Measured} (record { nodes = n; depth = d; datatype = t }) (record { nodes = m; depth = k; datatype = u })
alike e f g = rw (e, f, g) refl

same_sum : (l a b c d : ℕ) → min l a ≡ min l b → min l c ≡ min l d → min l (a + c) ≡ min l (b + d)
same_sum l a b c d e f = omega arith

same_most : (l a b c d : ℕ) → min l a ≡ min l b → min l c ≡ min l d → min l (max a c) ≡ min l (max b d)
same_most l a b c d e f = omega arith

same_types : (o p : Option ArgType) (os ps : List (Option ArgType)) → o ≡ p → all_typed os ≡ all_typed ps → all_typed (o ∷ os) ≡ all_typed (p ∷ ps)
same_types o None os ps e f = rw e refl
same_types o (Some t) os ps e f = rw e (ap (option_map (λ ts. t ∷ ts)) f)

-- one level of an expression, by what is measured of variables
abbrev step : (List ℕ → Measured) → Expression-F Expression → Measured
step refer x = record {
  nodes = min 65537 (nodes_step (λ id. (refer id).nodes) (map-Expression Expression ℕ (nodes_with (λ id. (refer id).nodes)) x));
  depth = min 17 (depth_step (λ id. (refer id).depth) (map-Expression Expression ℕ (depth_with (λ id. (refer id).depth)) x));
  datatype = type_step (λ id. (refer id).datatype) (map-Expression Expression (Option ArgType) (type_with (λ id. (refer id).datatype)) x);
}

stepped : (refer : List ℕ → Measured) (x : Expression-F Expression) → measured_with refer (roll-Expression x) ≡ step refer x
stepped refer x =
    alike (ap (min 65537) (fold-roll-Expression ℕ (nodes_step (λ id. (refer id).nodes)) x))
    (ap (min 17) (fold-roll-Expression ℕ (depth_step (λ id. (refer id).depth)) x))
    (fold-roll-Expression (Option ArgType) (type_step (λ id. (refer id).datatype)) x)

pub measured_apply : (refer : List ℕ → Measured) (function : Function) (arguments : List Expression) → measured_with refer (expressions.Apply function arguments) ≡ record {
  nodes = min 65537 (1 + sum (map (nodes_with (λ id. (refer id).nodes)) arguments));
  depth = min 17 (1 + greatest (map (depth_with (λ id. (refer id).depth)) arguments));
  datatype = option_and_then (result_type_of function) (all_typed (map (type_with (λ id. (refer id).datatype)) arguments));
}
unfolding Rattle.ent_policy.specs.declared.expression.Expression.TheViews.roll-Expression denote.Hole.Carrier.roll
measured_apply refer function arguments = stepped refer (Expression-F.Apply function arguments)

module _ (r s : List ℕ → Measured) (passes : List ℕ → Bool) (same : (q : List ℕ) → passes q ≡ true → cut (r q) ≡ cut (s q)) where
  abbrev Agree : Expression → Type 0
  Agree e = uses_only passes e ≡ true → measured_with r e ≡ measured_with s e

  abbrev pub AllAgree : List Expression → Type 0
  AllAgree es = record {
    nodes : min 65537 (sum (map (nodes_with (λ id. (r id).nodes)) es)) ≡ min 65537 (sum (map (nodes_with (λ id. (s id).nodes)) es));
    depth : min 17 (greatest (map (depth_with (λ id. (r id).depth)) es)) ≡ min 17 (greatest (map (depth_with (λ id. (s id).depth)) es));
    types : all_typed (map (type_with (λ id. (r id).datatype)) es) ≡ all_typed (map (type_with (λ id. (s id).datatype)) es);
  }

  all_agree : (es : List ((e : Expression) × Agree e)) → list_all passes (flat_map (λ ids. ids) (map variables (map (λ e. e.0) es))) ≡ true → AllAgree (map (λ e. e.0) es)
  all_agree [] h = record { nodes = refl; depth = refl; types = refl }
  all_agree (e ∷ es) h =
      let p = and_parts (list_all passes (variables e.0)) (list_all passes (flat_map (λ ids. ids) (map variables (map (λ e. e.0) es)))) (sym (list_all-append passes (variables e.0) (flat_map (λ ids. ids) (map variables (map (λ e. e.0) es)))) ∙ h) in
      let here : measured_with r e.0 ≡ measured_with s e.0 = e.1 p.0 in
      let rest : AllAgree (map (λ e. e.0) es) = all_agree es p.1 in
      record {
        nodes = rw (sum_by-cons (λ n. n) (nodes_with (λ id. (r id).nodes) e.0) (map (nodes_with (λ id. (r id).nodes)) (map (λ e. e.0) es)), sum_by-cons (λ n. n) (nodes_with (λ id. (s id).nodes) e.0) (map (nodes_with (λ id. (s id).nodes)) (map (λ e. e.0) es)))
            (same_sum 65537 _ _ _ _ (ap (λ m. m.nodes) here) rest.nodes);
        depth = same_most 17 _ _ _ _ (ap (λ m. m.depth) here) rest.depth;
        types = same_types _ _ _ _ (ap (λ m. m.datatype) here) rest.types;
      }

  layer : (y : Expression-F ((e : Expression) × Agree e)) → Agree (roll-Expression (map-Expression ((e : Expression) × Agree e) Expression (λ e. e.0) y))
  layer y h = stepped r x ∙ steps y (sym (ap (list_all passes) (fold-roll-Expression (List (List ℕ)) variables_step x)) ∙ h) ∙ sym (stepped s x)
    where
      x : Expression-F Expression
      x = map-Expression ((e : Expression) × Agree e) Expression (λ e. e.0) y

      steps : (y : Expression-F ((e : Expression) × Agree e)) → list_all passes (variables_step (map-Expression Expression (List (List ℕ)) variables (map-Expression ((e : Expression) × Agree e) Expression (λ e. e.0) y))) ≡ true
          → step r (map-Expression ((e : Expression) × Agree e) Expression (λ e. e.0) y) ≡ step s (map-Expression ((e : Expression) × Agree e) Expression (λ e. e.0) y)
      steps (Expression-F.Value v) h = refl
      steps (Expression-F.Designator d) h = refl
      steps (Expression-F.Variable id) h =
          let here : cut (r id) ≡ cut (s id) = same id (and_parts (passes id) true h).0 in
          alike (same_sum 65537 1 1 _ _ refl (ap (λ m. m.nodes) here)) (ap (λ m. m.depth) here) (ap (λ m. m.datatype) here)
      steps (Expression-F.Apply f es) h =
          let inside : AllAgree (map (λ e. e.0) es) = all_agree es h in
          alike (same_sum 65537 1 1 _ _ refl inside.nodes) (same_sum 17 1 1 _ _ refl inside.depth) (ap (option_and_then (result_type_of f)) inside.types)
      steps (Expression-F.Function f) h = refl

  pub measured_agrees : (e : Expression) → Agree e
  measured_agrees = ind-Expression Agree (λ x y is. subst (λ z. Agree (roll-Expression z)) is (layer y))
