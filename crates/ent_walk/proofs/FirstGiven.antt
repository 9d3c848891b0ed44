-- A rule behind its target, and what an element gives itself: an Indeterminate has the status of the first cause of it.
use Rattle.std.proofs.Common.{◌≡◌, ℕ, Bool, true, false, List, [], ◌∷◌, length, map, refl, sym, ap}
use Rattle.std.proofs.Common.{◌∙◌, Some, None, Result, Ok, Err}
use Rattle.std.specs.Prelude.{if◌then◌else◌, is_err}
use Rattle.std.specs.Option.{option_or}
use Rattle.ent_combine.specs.Seen.{up_to_first}
use Rattle.ent_combine.specs.declared.outcome.Outcome.{Outcome}
use Rattle.ent_combine.specs.declared.outcome.Outcome.TheVariants as outcome
use Rattle.ent_functions.specs.declared.arg.Arg.TheVariants as arg
use Rattle.ent_policy.specs.declared.document.Effect.{Effect}
use Rattle.ent_policy.specs.declared.document.Effect.TheVariants as effect
use Rattle.ent_policy.specs.declared.document.Rule.{Rule}
use Rattle.ent_policy.specs.declared.expression.VariableDefinition.{VariableDefinition}
use Rattle.ent_policy.specs.declared.given.AssignmentExpression.{AssignmentExpression}
use Rattle.ent_policy.specs.declared.given.GivenExpression.{GivenExpression}
use Rattle.ent_policy.specs.declared.given.GivenExpressions.{GivenExpressions}
use Rattle.ent_policy.specs.declared.key.DocKey.{DocKey}
use Rattle.ent_request.specs.declared.answer.Answer.{Answer}
use Rattle.ent_request.specs.declared.answer.Status.{Status}
use Rattle.ent_request.specs.declared.answer.Status.TheVariants.{Okay}
use Rattle.ent_walk.specs.declared.evaluated.Evaluated.{Evaluated}
use Rattle.ent_walk.specs.declared.evaluated.Evaluated.TheVariants as evaluated
use Rattle.ent_walk.specs.declared.evaluated.Truth.{Truth}
use Rattle.ent_walk.specs.declared.evaluated.Truth.TheVariants as truth
use Rattle.ent_request.specs.declared.given.Assignment.{Assignment}
use Rattle.ent_request.specs.declared.given.Given.{Given}
use Rattle.ent_request.specs.declared.request.Request.{Request}
use Rattle.ent_walk.specs.declared.target.Targeted.{Targeted}
use Rattle.ent_walk.specs.declared.target.Targeted.TheVariants as is
use Rattle.ent_walk.specs.Expression.{meaning}
use Rattle.ent_walk.specs.Given.{advice_after, assigned, assignment_part, effect_of, finished, given_in_turn}
use Rattle.ent_walk.specs.Given.{given_of, given_part, given_with, givens_part, goes_with, joined, together}
use Rattle.ent_walk.specs.Given.{unfit_assignment, with_own}
use Rattle.ent_request.specs.Looks.{Looks}
use Rattle.ent_request.specs.Part.{Part, mapped, values, without_look}
use Rattle.ent_walk.specs.Rule.{condition_part, decided, decision_of, rule_under}
use Rattle.ent_walk.proofs.FirstCauses.{of_decision, of_answer, of_target, of_evaluated, of_truth, of_given, first_of}
use Rattle.ent_walk.proofs.FirstCauses.{status_in, IsTold, each-told, told-seen, fails-told, then-told}
use Rattle.ent_walk.proofs.FirstCauses.{expression-told, condition-told}

module _ (looks : Looks) (request : Request) where
  -- ---- obligations and advice

  joined-told : {A : Type 0} (xs : List A) (later : Result (List A) Status)
      → of_given later ≡ of_given (joined (Ok xs) later)
  joined-told xs (Ok ys) = refl
  joined-told xs (Err status) = refl

  together-told : {A : Type 0} (vs : List (Result (List A) Status))
      → first_of of_given (up_to_first is_err vs) ≡ of_given (together vs)
  together-told [] = refl
  together-told (Err status ∷ vs) = refl
  together-told (Ok xs ∷ vs) = together-told vs ∙ joined-told xs (together vs)

  turn-told : {X A : Type 0} (part : X → Part (Result (List A) Status)) → ((x : X) → IsTold of_given (part x))
      → (xs : List X) → IsTold of_given (given_in_turn part xs)
  turn-told part each xs =
      told-seen of_given is_err (map part xs) (each-told of_given part each xs) ∙ together-told (values (map part xs))

  assigned-told : (a : AssignmentExpression) (v : Evaluated)
      → option_or (of_evaluated v) (status_in (unfit_assignment v)) ≡ of_given (assigned a v)
  assigned-told a (evaluated.Indeterminate status) = refl
  assigned-told a (evaluated.Known (arg.One v)) = refl
  assigned-told a (evaluated.Known (arg.Many bag)) = refl
  assigned-told a (evaluated.Known (arg.Fun f)) = refl

  assignment-told : (definitions : List VariableDefinition) (a : AssignmentExpression)
      → IsTold of_given (assignment_part looks request definitions a)
  assignment-told definitions a =
      fails-told of_evaluated of_given (assigned a)
      (meaning looks request definitions (length definitions) a.expression) unfit_assignment
      (expression-told looks request definitions a.expression) (assigned-told a)

  given_of-told : (id : List ℕ) (r : Result (List Assignment) Status) → of_given r ≡ of_given (given_of id r)
  given_of-told id (Ok assignments) = refl
  given_of-told id (Err status) = refl

  given-told : (definitions : List VariableDefinition) (effect : Effect) (g : GivenExpression)
      → IsTold of_given (given_part looks request definitions effect g)
  given-told definitions effect g = at (goes_with effect g.effect) where
    turn : Part (Result (List Assignment) Status)
    turn = given_in_turn (assignment_part looks request definitions) g.assignments

    at : (b : Bool) → IsTold of_given (if b then mapped (given_of g.id) turn else without_look (Ok []))
    at true =
        turn-told (assignment_part looks request definitions) (assignment-told definitions) g.assignments
        ∙ given_of-told g.id turn.value
    at false = refl

  givens-told : (definitions : List VariableDefinition) (effect : Effect) (gs : List GivenExpression)
      → IsTold of_given (givens_part looks request definitions effect gs)
  givens-told definitions effect gs =
      turn-told (given_part looks request definitions effect) (given-told definitions effect) gs

  own-told : (effect : Effect) (a : Answer) (obligations : List Given) (advice : Result (List Given) Status)
      → of_answer a ≡ None → of_given advice ≡ of_answer (with_own effect a obligations advice)
  own-told effect a obligations (Ok advice) none = sym none
  own-told effect a obligations (Err status) none = refl

  advice-told : (definitions : List VariableDefinition) (given : GivenExpressions) (effect : Effect) (a : Answer)
      → of_answer a ≡ None → (obligations : Result (List Given) Status)
      → option_or (of_given obligations)
      (status_in (advice_after looks request definitions given effect a obligations).notes)
      ≡ of_answer (advice_after looks request definitions given effect a obligations).value
  advice-told definitions given effect a none (Ok obligations) =
      givens-told definitions effect given.advice
      ∙ own-told effect a obligations (givens_part looks request definitions effect given.advice).value none
  advice-told definitions given effect a none (Err status) = refl

  with-told : (definitions : List VariableDefinition) (given : GivenExpressions) (effect : Effect) (a : Answer)
      → of_answer a ≡ None → IsTold of_answer (given_with looks request definitions given (Some effect) a)
  with-told definitions given effect a none =
      then-told of_given of_answer (givens_part looks request definitions effect given.obligations)
      (advice_after looks request definitions given effect a) (givens-told definitions effect given.obligations)
      (advice-told definitions given effect a none)

  -- behind an answer that is Indeterminate nothing is evaluated
  pub finished-told : (definitions : List VariableDefinition) (given : GivenExpressions) (a : Answer)
      → option_or (of_answer a) (status_in (finished looks request definitions given a).notes)
      ≡ of_answer (finished looks request definitions given a).value
  finished-told definitions given a = at a.decision refl where
    Tells : Outcome → Type 0
    Tells d =
        option_or (of_decision d a.status)
        (status_in (given_with looks request definitions given (effect_of d) a).notes) ≡ of_answer
        (given_with looks request definitions given (effect_of d) a).value

    at : (d : Outcome) → a.decision ≡ d → Tells d
    at outcome.Permit is = with-told definitions given effect.Permit a (ap (λ d. of_decision d a.status) is)
    at outcome.Deny is = with-told definitions given effect.Deny a (ap (λ d. of_decision d a.status) is)
    at outcome.NotApplicable is = sym (ap (λ d. of_decision d a.status) is)
    at (outcome.Ind kind) is = sym (ap (λ d. of_decision d a.status) is)

  -- ---- rules behind their targets

  decided-told : (path : List DocKey) (rule : Rule) (t : Truth) → of_truth t ≡ of_answer (decided path rule t)
  decided-told path rule truth.False = refl
  decided-told path rule (truth.Indeterminate status) = refl
  decided-told path rule truth.True = at rule.effect where
    at : (e : Effect) → None ≡ of_decision (decision_of e) Okay
    at effect.Permit = refl
    at effect.Deny = refl

  pub under-told : (definitions : List VariableDefinition) (path : List DocKey) (rule : Rule) (t : Targeted)
      → option_or (of_target t) (status_in (rule_under looks request definitions path rule t).notes)
      ≡ of_answer (rule_under looks request definitions path rule t).value
  under-told definitions path rule is.NoMatch = refl
  under-told definitions path rule (is.Indeterminate status) = refl
  under-told definitions path rule is.Match =
      let condition = condition_part looks request definitions rule.condition in
      then-told of_answer of_answer (mapped (decided path rule) condition)
      (finished looks request definitions rule.given)
      (condition-told looks request definitions rule.condition ∙ decided-told path rule condition.value)
      (finished-told definitions rule.given)
