-- Obligation expressions and advice expressions that are written read back.
use Rattle.std.proofs.Common.{◌≡◌, ℕ, List, [], ◌∷◌, map, Option, Some, None, option_map, Result, Ok, codes, refl, ap, ◌∙◌}
use Rattle.std.specs.List.{AllByRecursion, flat_map}
use Rattle.serde_json.specs.Data as json
use Rattle.serde_json.specs.Data.{Data, put}
use Rattle.serde_json.specs.View.{items_of}
use Rattle.ent_values.specs.ReadBack.{HasFewYears, IsReal}
use Rattle.ent_policy.specs.Reading.{assignment_read, each_read, given_expression_read, given_read}
use Rattle.ent_policy.specs.declared.document.Effect.{Effect}
use Rattle.ent_policy.specs.declared.document.Effect.TheVariants.{Permit, Deny}
use Rattle.ent_policy.specs.declared.fault.DocFault.{DocFault}
use Rattle.ent_policy.specs.declared.given.AssignmentExpression.{AssignmentExpression}
use Rattle.ent_policy.specs.declared.given.GivenExpression.{GivenExpression}
use Rattle.ent_policy.specs.declared.given.GivenExpressions.{GivenExpressions}
use Rattle.ent_policy.specs.declared.raw.RawGivenExpressions.{RawGivenExpressions}
use Rattle.ent_policy.proofs.Wholes.{neither}
use Rattle.ent_polform.specs.Expressions.{expression_of}
use Rattle.ent_polform.specs.Given.{assignment_of, given_by}
use Rattle.ent_json.specs.Members.{put_optional}
use Rattle.ent_polform.specs.Objects.{◌>>=◌, each_by}
use Rattle.ent_policy.specs.Values.{assignment_values, given_values, values_given}
use Rattle.ent_json.specs.Members.{filled_list, optional}
use Rattle.ent_polform.specs.Written.{expression_written}
use Rattle.ent_polform.specs.Written.{assignment_written, effect_word, given_written}
use Rattle.ent_polform.proofs.Back.{Back, Returns, all_back, both_few, both_of, made_back, no_fault}
use Rattle.ent_polform.proofs.BackExpressions.{expression_back}

-- ---- assignments

assignment_form : (attribute : List ℕ) (category issuer : Option (List ℕ)) (e : Data) →
    assignment_of (json.object (json.member (codes "AttributeId") (json.string attribute) (optional (codes "Category") (option_map json.string category)
    (json.member (codes "Expression") e (optional (codes "Issuer") (option_map json.string issuer) json.no_members)))))
    ≡ (expression_of e >>= λ expression. Ok (record { attribute = attribute; category = category; issuer = issuer; expression = expression }))
unfolding assignment_of
assignment_form attribute None None e = refl
assignment_form attribute None (Some issuer) e = refl
assignment_form attribute (Some category) None e = refl
assignment_form attribute (Some category) (Some issuer) e = refl

assignment_back : (a : AssignmentExpression) → Returns (λ x. assignment_of (assignment_written x)) assignment_read (λ x. None) assignment_values a
unfolding assignment_written assignment_read
assignment_back a clean real =
    let b = expression_back a.expression refl real in (
      record { attribute = a.attribute; category = a.category; issuer = a.issuer; expression = b.0 },
      (assignment_form a.attribute a.category a.issuer (expression_written a.expression) ∙ rw b.1.0 refl, made_back (λ x. record { attribute = a.attribute; category = a.category; issuer = a.issuer; expression = x }) b.1.1),
    )

-- ---- obligations and advice

-- an element that is written with its id and its effect at these keys is read there
abbrev GivenForm : List ℕ → List ℕ → Type 0
GivenForm id_key effect_key = (id : List ℕ) (effect : Effect) (assignments : List Data) →
    given_by id_key effect_key (json.object (put id_key (json.string id) (put effect_key (json.string (effect_word effect)) (put_optional (codes "AttributeAssignmentExpression") (filled_list assignments) json.no_members))))
    ≡ (each_by assignment_of (items_of assignments) >>= λ all. Ok (record { id = id; effect = effect; assignments = all }))

obligation_form : GivenForm (codes "ObligationId") (codes "FulfillOn")
unfolding given_by
obligation_form id Permit [] = refl
obligation_form id Permit (a ∷ more) = refl
obligation_form id Deny [] = refl
obligation_form id Deny (a ∷ more) = refl

advice_form : GivenForm (codes "AdviceId") (codes "AppliesTo")
unfolding given_by
advice_form id Permit [] = refl
advice_form id Permit (a ∷ more) = refl
advice_form id Deny [] = refl
advice_form id Deny (a ∷ more) = refl

module _ (id_key effect_key : List ℕ) (form : GivenForm id_key effect_key) where
  given_back : (g : GivenExpression) → Returns (λ x. given_by id_key effect_key (given_written id_key effect_key x)) given_expression_read (λ x. None) values_given g
  unfolding given_written given_expression_read
  given_back g clean real =
      let written = all_back assignment_of assignment_written assignment_read (λ x. None) assignment_values assignment_back g.assignments (no_fault g.assignments) real in (
        record { id = g.id; effect = g.effect; assignments = written.0 },
        (form g.id g.effect (map assignment_written g.assignments) ∙ rw written.1.0 refl, made_back (λ x. record { id = g.id; effect = g.effect; assignments = x }) written.1.1),
      )

  all_given_back : (gs : List GivenExpression) → Returns (λ xs. each_by (given_by id_key effect_key) (items_of (map (given_written id_key effect_key) xs))) (each_read given_expression_read) (λ xs. None) (flat_map values_given) gs
  all_given_back gs clean real = all_back (given_by id_key effect_key) (given_written id_key effect_key) given_expression_read (λ x. None) values_given given_back gs (no_fault gs) real

-- what is read of the lists of both
abbrev pub given_in : List Data → List Data → Result RawGivenExpressions DocFault
given_in obligations advice = each_by (given_by (codes "ObligationId") (codes "FulfillOn")) (items_of obligations) >>= λ os. each_by (given_by (codes "AdviceId") (codes "AppliesTo")) (items_of advice) >>= λ all.
    Ok (record { obligations = os; advice = all })

abbrev pub obligations_of : GivenExpressions → List Data
obligations_of g = map (given_written (codes "ObligationId") (codes "FulfillOn")) g.obligations

abbrev pub advice_of : GivenExpressions → List Data
advice_of g = map (given_written (codes "AdviceId") (codes "AppliesTo")) g.advice

pub both_back : (g : GivenExpressions) → AllByRecursion IsReal (given_values g) → Back (given_in (obligations_of g) (advice_of g)) given_read (given_values g) g
unfolding given_read
both_back g real =
    let first = flat_map values_given g.obligations in
    let second = flat_map values_given g.advice in
    let both = both_of IsReal first second real in
    let obligations = all_given_back _ _ obligation_form g.obligations refl both.0 in
    let advice = all_given_back _ _ advice_form g.advice refl both.1 in (
      record { obligations = obligations.0; advice = advice.0 },
      (
        rw (obligations.1.0, advice.1.0) refl,
        record {
          same = λ few.
              let parts = both_of HasFewYears first second few in
              let os = obligations.1.1.same parts.0 in
              let all = advice.1.1.same parts.1 in
              rw (ap (λ r. r.value) os, ap (λ r. r.fault) os, ap (λ r. r.value) all, ap (λ r. r.fault) all) refl;
          few = λ clear.
              let parts = neither (each_read given_expression_read obligations.0).fault _ clear in
              both_few first second (obligations.1.1.few parts.0) (advice.1.1.few (neither (each_read given_expression_read advice.0).fault None parts.1).0);
        },
      ),
    )
