-- What is written of values, expressions, targets and references is plain and not too deep.
use Rattle.std.proofs.Common.{◌≡◌, ℕ, suc, ◌+◌, ◌*◌, ◌≤◌, ◌<◌, ◌^◌, pos, negsuc, List, [], ◌∷◌, map, Bool, true, false, ◌&&◌, Option, Some, None, option_map, codes, refl, sym, ap, subst, ◌∙◌, arith}
use Rattle.std.specs.List.{AllByRecursion, flat_map, list_all}
use Rattle.std.proofs.lemmas.Bool.{ltb-true}
use Rattle.std.proofs.lemmas.List.Folds.{flat_map-map}
use Rattle.serde_json.specs.Data as json
use Rattle.serde_json.specs.Data.{Data}
use Rattle.ent_values.specs.ReadBack.{IsReal}
use Rattle.ent_values.specs.Types.{datatype_of, uri_of}
use Rattle.ent_values.specs.declared.value.Value.{Value}
use Rattle.ent_values.specs.declared.value.Value.TheVariants as values
use Rattle.ent_functions.specs.Identifiers.{id_of}
use Rattle.ent_functions.specs.declared.function.Function.{Function}
use Rattle.ent_policy.specs.Depths.{depth_step, depth_with, greatest}
use Rattle.ent_policy.specs.Values.{all_of_values, any_of_values, expression_values, match_values, target_values, values_here}
use Rattle.ent_policy.specs.Variables.{uses_only, variables, variables_step}
use Rattle.ent_policy.specs.declared.document.AllOf.{AllOf}
use Rattle.ent_policy.specs.declared.document.AnyOf.{AnyOf}
use Rattle.ent_policy.specs.declared.document.Designator.{Designator}
use Rattle.ent_policy.specs.declared.document.Match.{Match}
use Rattle.ent_policy.specs.declared.document.Target.{Target}
use Rattle.ent_policy.specs.declared.expression.Expression.{Expression}
use Rattle.ent_policy.specs.declared.expression.Expression.TheFolds.{fold-roll-Expression, ind-Expression, map-Expression}
use Rattle.ent_policy.specs.declared.expression.Expression.TheOpen.{Expression-F}
use Rattle.ent_policy.specs.declared.expression.Expression.TheViews.{roll-Expression}
use Rattle.ent_policy.specs.declared.key.Reference.{Reference}
use Rattle.ent_policy.specs.declared.pattern.PatternPart.{PatternPart}
use Rattle.ent_json.specs.Members.{filled_list, only_member}
use Rattle.ent_polform.specs.Reference.{reference_key}
use Rattle.ent_polform.specs.Written.{all_of_written, any_of_written, apply_written, designator_written, expression_step, expression_written, literal_written, match_written, pattern_written, reference_body, reference_written, target_written, value_written}
use Rattle.ent_polform.proofs.Fitting.{Fits, FitsOption, all_fit, boolean_fits, both_pass, both_real, filled_fits, fits_more, list_fits, maybe_text_fits, object_fits, one_fits, text_fits}

-- ---- values

pub value_fits : (v : Value) → IsReal v → Fits 1 (value_written v)
unfolding value_written
value_fits (values.Text text) h = text_fits 0 _
value_fits (values.Boolean boolean) h = boolean_fits 0 boolean
value_fits (values.Integer (pos n)) h = let small : n < 2 ^ 63 = ltb-true n (2 ^ 63) h in record { plain = omega arith; shallow = omega arith }
value_fits (values.Integer (negsuc n)) h = record { plain = ltb-true n (2 ^ 63) h; shallow = omega arith }
value_fits (values.Date date) h = text_fits 0 _
value_fits (values.AnyUri uri) h = text_fits 0 _
value_fits (values.YearMonth months) h = text_fits 0 _
value_fits (values.Time time) h = text_fits 0 _
value_fits (values.DateTime moment) h = text_fits 0 _

literal_fits : (v : Value) → IsReal v → Fits 2 (literal_written v)
unfolding literal_written
literal_fits v h =
    object_fits 0 ((codes "DataType", Some (json.string (uri_of (datatype_of v)))) ∷ (codes "Value", Some (value_written v)) ∷ [])
    refl (text_fits 0 _, (value_fits v h, tt))

designator_fits : (d : Designator) → Fits 2 (designator_written d)
unfolding designator_written
designator_fits d =
    object_fits 0 ((codes "AttributeId", Some (json.string d.attribute)) ∷ (codes "Category", Some (json.string d.category)) ∷ (codes "DataType", Some (json.string (uri_of d.datatype)))
    ∷ (codes "Issuer", option_map json.string d.issuer) ∷ (codes "MustBePresent", Some (json.boolean d.must_be_present)) ∷ [])
    refl (text_fits 0 _, (text_fits 0 _, (text_fits 0 _, (maybe_text_fits 0 d.issuer, (boolean_fits 0 _, tt)))))

-- an object whose only member is an object of one text
text_within : (outer inner s : List ℕ) → Fits 3 (only_member outer (only_member inner (json.string s)))
text_within outer inner s = one_fits 1 outer _ (one_fits 0 inner _ (text_fits 0 s))

-- ---- expressions

used_here : (passes : List ℕ → Bool) (id : List ℕ) → uses_only passes (roll-Expression (Expression-F.Variable id)) ≡ true → passes id ≡ true
used_here passes id all = first (passes id) (ap (list_all passes) (sym (fold-roll-Expression (List (List ℕ)) variables_step (Expression-F.Variable id))) ∙ all)
  where
    first : (c : Bool) → (c && true) ≡ true → c ≡ true
    first true h = refl
    first false h = h

-- an expression has a level, if each of its variables stands for one
module _ (refer : List ℕ → ℕ) (passes : List ℕ → Bool) (reach : (id : List ℕ) → passes id ≡ true → 1 ≤ refer id) where
  abbrev HasLevel : Expression → Type 0
  HasLevel e = uses_only passes e ≡ true → 1 ≤ depth_with refer e

  level : (y : Expression-F Expression) → 1 ≤ depth_step refer (map-Expression Expression ℕ (depth_with refer) y) → 1 ≤ depth_with refer (roll-Expression y)
  level y most = let deep = fold-roll-Expression ℕ (depth_step refer) y in omega (arith, deep)

  level_here : (y : Expression-F Expression) → HasLevel (roll-Expression y)
  level_here (Expression-F.Value v) all = level (Expression-F.Value v) (omega arith)
  level_here (Expression-F.Designator d) all = level (Expression-F.Designator d) (omega arith)
  level_here (Expression-F.Variable id) all = level (Expression-F.Variable id) (reach id (used_here passes id all))
  level_here (Expression-F.Apply f es) all = level (Expression-F.Apply f es) (omega arith)
  level_here (Expression-F.Function f) all = level (Expression-F.Function f) (omega arith)

  pub has_level : (e : Expression) → HasLevel e
  has_level = ind-Expression HasLevel (λ x y is. subst (λ z. HasLevel (roll-Expression z)) is (level_here _))

-- An expression takes three levels for each of its own, where a variable stands for a level at least. Otherwise it takes b more.
module _ (refer : List ℕ → ℕ) (passes : List ℕ → Bool) (b : ℕ) (reach : (id : List ℕ) → passes id ≡ true → 3 ≤ 3 * refer id + b) where
  abbrev levels : Expression → ℕ
  levels e = 3 * depth_with refer e + b

  abbrev ExpressionFits : Expression → Type 0
  ExpressionFits e = AllByRecursion IsReal (expression_values e) → uses_only passes e ≡ true → Fits (levels e) (expression_written e)

  arguments_fit : (n : ℕ) (es : List ((e : Expression) × ExpressionFits e)) → AllByRecursion IsReal (flat_map expression_values (map (λ e. e.0) es))
      → list_all passes (flat_map variables (map (λ e. e.0) es)) ≡ true → 3 * greatest (map (depth_with refer) (map (λ e. e.0) es)) + b ≤ n
      → AllByRecursion (Fits n) (map expression_written (map (λ e. e.0) es))
  arguments_fit n [] real all low = tt
  arguments_fit n (e ∷ es) real all low =
      let values = both_real (expression_values e.0) (flat_map expression_values (map (λ e. e.0) es)) real in
      let names = both_pass passes (variables e.0) (flat_map variables (map (λ e. e.0) es)) all in
      (fits_more (levels e.0) n (expression_written e.0) (omega arith) (e.1 values.0 names.0), arguments_fit n es values.1 names.1 (omega arith))

  shown : (n : ℕ) (y : Expression-F Expression) → n ≤ 3 * depth_step refer (map-Expression Expression ℕ (depth_with refer) y) + b
      → Fits n (expression_step (map-Expression Expression Data expression_written y)) → Fits (levels (roll-Expression y)) (expression_written (roll-Expression y))
  shown n y low h =
      let deep = fold-roll-Expression ℕ (depth_step refer) y in
      subst (Fits (levels (roll-Expression y))) (sym (fold-roll-Expression Data expression_step y)) (fits_more n (levels (roll-Expression y)) _ (omega (arith, deep)) h)

  layer : (y : Expression-F ((e : Expression) × ExpressionFits e)) → ExpressionFits (roll-Expression (map-Expression ((e : Expression) × ExpressionFits e) Expression (λ e. e.0) y))
  layer (Expression-F.Value v) real all =
      let here : AllByRecursion IsReal (v ∷ []) = subst (AllByRecursion IsReal) (fold-roll-Expression (List Value) values_here (Expression-F.Value v)) real in
      shown 3 (Expression-F.Value v) (omega arith) (one_fits 1 (codes "AttributeValue") (literal_written v) (literal_fits v here.0))
  layer (Expression-F.Designator d) real all = shown 3 (Expression-F.Designator d) (omega arith) (one_fits 1 (codes "AttributeDesignator") (designator_written d) (designator_fits d))
  layer (Expression-F.Variable id) real all = shown 3 (Expression-F.Variable id) (reach id (used_here passes id all)) (text_within (codes "VariableReference") (codes "VariableId") id)
  layer (Expression-F.Apply f es) real all =
      let xs = map (λ (e : (e : Expression) × ExpressionFits e). e.0) es in
      let inside : AllByRecursion IsReal (flat_map expression_values xs)
      = subst (AllByRecursion IsReal) (fold-roll-Expression (List Value) values_here (Expression-F.Apply f xs) ∙ flat_map-map (λ l. l) expression_values xs) real in
      let known : list_all passes (flat_map variables xs) ≡ true
      = ap (list_all passes) (sym (fold-roll-Expression (List (List ℕ)) variables_step (Expression-F.Apply f xs) ∙ flat_map-map (λ ids. ids) variables xs)) ∙ all in
      let n = 3 * greatest (map (depth_with refer) xs) + b in
      let arguments = filled_fits n (map expression_written xs) (arguments_fit n es inside known (omega arith)) in
      shown (suc (suc (suc n))) (Expression-F.Apply f xs) (omega arith)
      (one_fits (suc n) (codes "Apply") (apply_written f (map expression_written xs))
      (object_fits n ((codes "Arguments", filled_list (map expression_written xs)) ∷ (codes "FunctionId", Some (json.string (id_of f))) ∷ []) refl (arguments, (text_fits n _, tt))))
  layer (Expression-F.Function f) real all = shown 3 (Expression-F.Function f) (omega arith) (text_within (codes "Function") (codes "FunctionId") (id_of f))

  pub expression_fits : (e : Expression) → ExpressionFits e
  expression_fits = ind-Expression ExpressionFits (λ x y is. subst (λ z. ExpressionFits (roll-Expression z)) is (layer y))

-- ---- targets

match_fits : (m : Match) → AllByRecursion IsReal (match_values m) → Fits 3 (match_written m)
unfolding match_written
match_fits m real =
    object_fits 1 ((codes "AttributeDesignator", Some (designator_written m.designator)) ∷ (codes "AttributeValue", Some (literal_written m.literal)) ∷ (codes "MatchId", Some (json.string (id_of m.function))) ∷ [])
    refl (designator_fits m.designator, (literal_fits m.literal real.0, (text_fits 1 _, tt)))

all_of_fits : (a : AllOf) → AllByRecursion IsReal (all_of_values a) → Fits 5 (all_of_written a)
unfolding all_of_written
all_of_fits a real = one_fits 3 (codes "Match") _ (list_fits 2 (map match_written a.matches) (all_fit 3 match_written match_values match_fits a.matches real))

any_of_fits : (a : AnyOf) → AllByRecursion IsReal (any_of_values a) → Fits 7 (any_of_written a)
unfolding any_of_written
any_of_fits a real = one_fits 5 (codes "AllOf") _ (list_fits 4 (map all_of_written a.all_of) (all_fit 5 all_of_written all_of_values all_of_fits a.all_of real))

pub target_fits : (t : Target) → AllByRecursion IsReal (target_values t) → FitsOption 9 (target_written t)
unfolding target_written
target_fits t real = by (filled_list (map any_of_written t.any_of)) (filled_fits 7 (map any_of_written t.any_of) (all_fit 7 any_of_written any_of_values any_of_fits t.any_of real))
  where
    by : (o : Option Data) → FitsOption 8 o → FitsOption 9 (option_map (only_member (codes "AnyOf")) o)
    by None h = tt
    by (Some d) h = one_fits 7 (codes "AnyOf") d h

-- ---- references

maybe_pattern_fits : (o : Option (List PatternPart)) → FitsOption 1 (option_map pattern_written o)
maybe_pattern_fits None = tt
maybe_pattern_fits (Some p) = text_fits 0 _

pub reference_fits : (r : Reference) → Fits 3 (reference_written r)
unfolding reference_written
reference_fits r =
    one_fits 1 (reference_key r.kind) (reference_body r) (object_fits 0
    ((codes "EarliestVersion", option_map pattern_written r.constraints.earliest) ∷ (codes "Id", Some (json.string r.id)) ∷ (codes "LatestVersion", option_map pattern_written r.constraints.latest)
    ∷ (codes "Version", option_map pattern_written r.constraints.version) ∷ [])
    refl (maybe_pattern_fits r.constraints.earliest, (text_fits 0 _, (maybe_pattern_fits r.constraints.latest, (maybe_pattern_fits r.constraints.version, tt)))))
