-- Expressions that are written read back.
use Rattle.std.proofs.Common.{◌≡◌, List, [], ◌∷◌, map, None, Result, Ok, refl, ap, subst, ◌∙◌}
use Rattle.std.specs.List.{AllByRecursion}
use Rattle.std.proofs.lemmas.List.Folds.{flat_map-map}
use Rattle.serde_json.specs.Data.{Data}
use Rattle.serde_json.specs.View.{items_of}
use Rattle.ent_values.specs.ReadBack.{IsReal}
use Rattle.ent_values.specs.declared.value.Value.{Value}
use Rattle.ent_functions.specs.Identifiers.{id_of}
use Rattle.ent_functions.specs.declared.function.Function.{Function}
use Rattle.ent_policy.specs.Reading as reading
use Rattle.ent_policy.specs.Reading.{expression_read}
use Rattle.ent_policy.specs.declared.expression.Expression.{Expression}
use Rattle.ent_policy.specs.declared.expression.Expression.TheFolds.{fold-roll-Expression, ind-Expression, map-Expression}
use Rattle.ent_policy.specs.declared.expression.Expression.TheOpen.{Expression-F}
use Rattle.ent_policy.specs.declared.expression.Expression.TheVariants as expressions
use Rattle.ent_policy.specs.declared.expression.Expression.TheViews.{roll-Expression}
use Rattle.ent_policy.specs.declared.fault.DocFault.{DocFault}
use Rattle.ent_policy.specs.declared.raw.RawExpression.{RawExpression}
use Rattle.ent_policy.specs.declared.raw.RawExpression.TheFolds.{fold-roll-RawExpression, map-RawExpression}
use Rattle.ent_policy.specs.declared.raw.RawExpression.TheOpen.{RawExpression-F}
use Rattle.ent_policy.specs.declared.raw.RawExpression.TheVariants as raw
use Rattle.ent_policy.specs.declared.raw.RawExpression.TheViews.{roll-RawExpression}
use Rattle.ent_policy.proofs.WhatIsRead.{apply_is_read}
use Rattle.ent_policy.proofs.Wholes.{ReadOf, neither}
use Rattle.ent_polform.specs.Expressions.{apply_by, expression_by, expression_named, expression_of, name_of}
use Rattle.ent_polform.specs.Objects.{◌>>=◌, each_by}
use Rattle.ent_policy.specs.Values.{expression_values, values_here}
use Rattle.ent_polform.specs.Written.{apply_written, expression_step, expression_written}
use Rattle.ent_polform.proofs.Back.{Returns, alike, each_back, made_back, no_fault}
use Rattle.ent_polform.proofs.BackTargets.{function_back}
use Rattle.ent_polform.proofs.BackValues.{designator_back, value_back}
use Rattle.ent_polform.proofs.NestedLemmas.{expression_of-step}

-- nothing in an expression has to be there, so it has no fault that keeps it from being read
abbrev ExpressionReturns : Expression → Type 0
ExpressionReturns = Returns (λ x. expression_of (expression_written x)) expression_read (λ x. None) expression_values

-- ---- one level

spelled : (y : Expression-F Expression) → expression_of (expression_written (roll-Expression y)) ≡ expression_by expression_of (expression_step (map-Expression Expression Data expression_written y))
spelled y = ap expression_of (fold-roll-Expression Data expression_step y) ∙ expression_of-step _

read_again : (y : RawExpression-F RawExpression) → expression_read (roll-RawExpression y) ≡ reading.expression_step (map-RawExpression RawExpression (ReadOf Expression) expression_read y)
read_again = fold-roll-RawExpression (ReadOf Expression) reading.expression_step

apply_form : (g : Data → Result RawExpression DocFault) (f : Function) (ds : List Data) → apply_by g (apply_written f ds) ≡ (each_by g (items_of ds) >>= λ rs. Ok (raw.Apply (id_of f) rs))
unfolding apply_by
apply_form g f [] = refl
apply_form g f (d ∷ ds) = refl

arguments_back : (es : List ((e : Expression) × ExpressionReturns e)) → AllByRecursion ExpressionReturns (map (λ e. e.0) es)
arguments_back [] = tt
arguments_back (e ∷ es) = (e.1, arguments_back es)

-- the values of one level, with those of its arguments
level_values : (y : Expression-F Expression) → expression_values (roll-Expression y) ≡ values_here (map-Expression Expression (List Value) expression_values y)
level_values = fold-roll-Expression (List Value) values_here

layer : (y : Expression-F ((e : Expression) × ExpressionReturns e)) → ExpressionReturns (roll-Expression (map-Expression ((e : Expression) × ExpressionReturns e) Expression (λ e. e.0) y))
unfolding roll-RawExpression roll-Expression denote.Hole.Carrier.roll expression_named name_of
layer (Expression-F.Value v) clean real =
    let holds = level_values (Expression-F.Value v) in
    let b = value_back v (subst (AllByRecursion IsReal) holds real).0 in
    (raw.Value b.0, (spelled (Expression-F.Value v) ∙ rw b.1.0 refl, alike (read_again (RawExpression-F.Value b.0)) holds (made_back (λ x. expressions.Value x) b.1.1)))
layer (Expression-F.Designator d) clean real =
    let b = designator_back d in
    (raw.Designator b.0, (spelled (Expression-F.Designator d) ∙ rw b.1.0 refl, alike (read_again (RawExpression-F.Designator b.0)) (level_values (Expression-F.Designator d)) (made_back (λ x. expressions.Designator x) b.1.1)))
layer (Expression-F.Variable id) clean real =
    (raw.Variable id, (spelled (Expression-F.Variable id), alike (read_again (RawExpression-F.Variable id)) (level_values (Expression-F.Variable id)) (record { same = λ few. refl; few = λ clear. tt })))
layer (Expression-F.Apply f es) clean real =
    let xs = map (λ (e : (e : Expression) × ExpressionReturns e). e.0) es in
    let holds = level_values (Expression-F.Apply f xs) ∙ flat_map-map (λ l. l) expression_values xs in
    let b = each_back expression_of expression_written expression_read (λ x. None) expression_values xs (arguments_back es) (no_fault xs) (subst (AllByRecursion IsReal) holds real) in (
      raw.Apply (id_of f) b.0,
      (
        spelled (Expression-F.Apply f xs) ∙ apply_form expression_of f (map expression_written xs) ∙ rw b.1.0 refl,
        alike (apply_is_read (id_of f) b.0) holds (record {
          same = λ few. let all = b.1.1.same few in rw (function_back f, ap (λ r. r.value) all, ap (λ r. r.fault) all) refl;
          few = λ clear. b.1.1.few (neither (reading.each_read expression_read b.0).fault None (neither (reading.function_read (id_of f)).fault _ clear).1).0;
        }),
      ),
    )
layer (Expression-F.Function f) clean real =
    (raw.Function (id_of f), (spelled (Expression-F.Function f), alike (read_again (RawExpression-F.Function (id_of f))) (level_values (Expression-F.Function f)) (record { same = λ few. rw (function_back f) refl; few = λ clear. tt })))

pub expression_back : (e : Expression) → ExpressionReturns e
expression_back = ind-Expression ExpressionReturns (λ x y is. subst (λ z. ExpressionReturns (roll-Expression z)) is (layer y))
