-- The obligations and the advice that an element gives itself (section 7.18).
use Rattle.std.specs.Prelude.{ℕ, List, [], ◌∷◌, ◌++◌, Bool, true, false, if◌then◌else◌, Option, Some, None, Result, Ok, Err, is_err, length, map}
use Rattle.ent_values.specs.declared.value.Value.{Value}
use Rattle.ent_combine.specs.declared.outcome.IndKind.{IndKind}
use Rattle.ent_combine.specs.declared.outcome.IndKind.TheVariants.{P, D}
use Rattle.ent_combine.specs.declared.outcome.Outcome.{Outcome}
use Rattle.ent_combine.specs.declared.outcome.Outcome.TheVariants as outcome
use Rattle.ent_functions.specs.declared.arg.Arg.TheVariants.{One, Many, Fun}
use Rattle.ent_policy.specs.declared.document.Effect.{Effect}
use Rattle.ent_policy.specs.declared.document.Effect.TheVariants.{Permit, Deny}
use Rattle.ent_policy.specs.declared.expression.VariableDefinition.{VariableDefinition}
use Rattle.ent_policy.specs.declared.given.AssignmentExpression.{AssignmentExpression}
use Rattle.ent_policy.specs.declared.given.GivenExpression.{GivenExpression}
use Rattle.ent_policy.specs.declared.given.GivenExpressions.{GivenExpressions}
use Rattle.ent_request.specs.declared.answer.Answer.{Answer}
use Rattle.ent_request.specs.declared.answer.Status.{Status}
use Rattle.ent_request.specs.declared.answer.Status.TheVariants.{ProcessingError}
use Rattle.ent_request.specs.declared.cause.What.TheVariants.{Unfit}
use Rattle.ent_walk.specs.declared.evaluated.Evaluated.{Evaluated}
use Rattle.ent_walk.specs.declared.evaluated.Evaluated.TheVariants.{Known, Indeterminate}
use Rattle.ent_request.specs.declared.given.Assignment.{Assignment}
use Rattle.ent_request.specs.declared.given.Given.{Given}
use Rattle.ent_request.specs.declared.request.Request.{Request}
use Rattle.ent_walk.specs.Expression.{meaning}
use Rattle.ent_request.specs.Plain.{indeterminate}
use Rattle.ent_request.specs.Looks.{Looks}
use Rattle.ent_request.specs.Note.{Note, failing}
use Rattle.ent_request.specs.Part.{Part, and_fails, and_then, mapped, whole, without_look}

-- ---- lists, each of which may be Indeterminate

-- one list after another, or the status of the first that is Indeterminate
abbrev pub joined : {A : Type 0} → Result (List A) Status → Result (List A) Status → Result (List A) Status
joined (Err status) later = Err status
joined (Ok xs) (Err status) = Err status
joined (Ok xs) (Ok ys) = Ok (xs ++ ys)

-- the same of several
abbrev pub together : {A : Type 0} → List (Result (List A) Status) → Result (List A) Status
together [] = Ok []
together (first ∷ later) = joined first (together later)

-- what several things give, which are seen up to the first that is Indeterminate
abbrev pub given_in_turn : {X A : Type 0} → (X → Part (Result (List A) Status)) → List X → Part (Result (List A) Status)
given_in_turn part xs = whole is_err together (map part xs)

-- ---- assignments

-- the assignment of a value
abbrev pub assignment_of : AssignmentExpression → Value → Assignment
assignment_of a value = record { attribute = a.attribute; category = a.category; issuer = a.issuer; value = value }

-- a value gives one assignment, a bag one for each value (section 5.41). In a checked document it is no function
abbrev pub assigned : AssignmentExpression → Evaluated → Result (List Assignment) Status
assigned a (Known (One value)) = Ok (assignment_of a value ∷ [])
assigned a (Known (Many bag)) = Ok (map (assignment_of a) bag.values)
assigned a (Known (Fun function)) = Err ProcessingError
assigned a (Indeterminate status) = Err status

-- that an assignment of a function fails
abbrev pub unfit_assignment : Evaluated → List Note
unfit_assignment (Known (Fun function)) = failing Unfit
unfit_assignment _ = []

-- an assignment among the definitions of its policy
abbrev pub assignment_part : Looks → Request → List VariableDefinition → AssignmentExpression → Part (Result (List Assignment) Status)
assignment_part looks request definitions a =
    mapped (assigned a) (and_fails (meaning looks request definitions (length definitions) a.expression) unfit_assignment)

-- ---- obligations and advice

-- an obligation or an advice with its assignments
abbrev pub given_of : List ℕ → Result (List Assignment) Status → Result (List Given) Status
given_of id (Ok assignments) = Ok (record { id = id; assignments = assignments } ∷ [])
given_of id (Err status) = Err status

-- whether what goes with one decision goes with another
abbrev pub goes_with : Effect → Effect → Bool
goes_with Permit Permit = true
goes_with Deny Deny = true
goes_with _ _ = false

-- an obligation or an advice under a decision: with another one it isn't given, and its assignments aren't evaluated
abbrev pub given_part : Looks → Request → List VariableDefinition → Effect → GivenExpression → Part (Result (List Given) Status)
given_part looks request definitions effect g =
    if goes_with effect g.effect then mapped (given_of g.id) (given_in_turn (assignment_part looks request definitions) g.assignments) else without_look (Ok [])

-- several, in document order
abbrev pub givens_part : Looks → Request → List VariableDefinition → Effect → List GivenExpression → Part (Result (List Given) Status)
givens_part looks request definitions effect gs = given_in_turn (given_part looks request definitions effect) gs

-- ---- elements

-- the Indeterminate of an effect (section 7.10)
abbrev pub indeterminate_of : Effect → IndKind
indeterminate_of Permit = P
indeterminate_of Deny = D

-- the effect of a decision, if it has one
abbrev pub effect_of : Outcome → Option Effect
effect_of outcome.Permit = Some Permit
effect_of outcome.Deny = Some Deny
effect_of _ = None

-- an element with its own obligations and advice behind those of its children; it is Indeterminate if some of its own are
abbrev pub with_own : Effect → Answer → List Given → Result (List Given) Status → Answer
with_own effect a obligations (Ok advice) =
    record { decision = a.decision; status = a.status; why = a.why; obligations = a.obligations ++ obligations; advice = a.advice ++ advice }
with_own effect a obligations (Err status) = indeterminate (indeterminate_of effect) status

-- its advice is evaluated behind its obligations, if none of these is Indeterminate
abbrev pub advice_after : Looks → Request → List VariableDefinition → GivenExpressions → Effect → Answer → Result (List Given) Status → Part Answer
advice_after looks request definitions given effect a (Ok obligations) = mapped (with_own effect a obligations) (givens_part looks request definitions effect given.advice)
advice_after looks request definitions given effect a (Err status) = without_look (indeterminate (indeterminate_of effect) status)

-- an element that gives a decision gives its own obligations and advice with it
abbrev pub given_with : Looks → Request → List VariableDefinition → GivenExpressions → Option Effect → Answer → Part Answer
given_with looks request definitions given None a = without_look a
given_with looks request definitions given (Some effect) a = and_then (givens_part looks request definitions effect given.obligations) (advice_after looks request definitions given effect a)

-- what an element comes to, where `a` is what it comes to without its own obligations and advice
abbrev pub finished : Looks → Request → List VariableDefinition → GivenExpressions → Answer → Part Answer
finished looks request definitions given a = given_with looks request definitions given (effect_of a.decision) a
