-- An answer rests on what is asked for it, so on the look-ups that are recorded for it: those that are made, each once.
use Rattle.std.specs.Prelude.{◌≡◌, ◌≢◌, ◌↔◌, List, ◌∷◌, ◌++◌, Option, Some, None, false}
use Rattle.std.specs.List.{All, Contains}
use Rattle.ent_combine.specs.declared.outcome.IndKind.{IndKind}
use Rattle.ent_combine.specs.declared.outcome.Outcome.TheVariants.{Ind}
use Rattle.ent_policy.specs.declared.document.Rule.{Rule}
use Rattle.ent_policy.specs.declared.document.Target.{Target}
use Rattle.ent_policy.specs.declared.expression.Expression.{Expression}
use Rattle.ent_policy.specs.declared.expression.VariableDefinition.{VariableDefinition}
use Rattle.ent_request.specs.declared.cause.Cause.{Cause}
use Rattle.ent_request.specs.declared.key.ReadKey.{ReadKey}
use Rattle.ent_request.specs.declared.key.ReadKey.TheVariants.{Root, Ref}
use Rattle.ent_request.specs.declared.request.Request.{Request}
use Rattle.ent_request.specs.declared.question.Question.{Question}
use Rattle.ent_request.specs.declared.question.Question.TheVariants as question
use Rattle.ent_walk.specs.Answer.{answer, asked, causes, looked_up, named, recorded}
use Rattle.ent_request.specs.Looks.{Looks}
use Rattle.ent_request.specs.Sources.{values_of}
use Rattle.ent_request.specs.SameLook.{IsSameLook}
use Rattle.ent_request.specs.Note.{questions_in}
use Rattle.ent_walk.specs.Judged.{has_failed}
use Rattle.ent_walk.specs.Rule.{condition_part}
use Rattle.ent_walk.specs.Target.{target_part}

-- a question finds the same for one request, over what is held, as for another over what is held then
abbrev pub FindsSame : Looks → Request → Looks → Request → Question → Type 0
FindsSame s q t r question.Root = s.root ≡ t.root
FindsSame s q t r (question.Ref reference) = s.document reference ≡ t.document reference
FindsSame s q t r (question.Of a) = values_of s q a ≡ values_of t r a

-- where each question that is asked finds the same, whoever asks, the answers are equal, what is asked, and the causes
abbrev pub EqualFindingsGiveEqualAnswers : Type 0
EqualFindingsGiveEqualAnswers = (s t : Looks) (q r : Request) → All (FindsSame s q t r) (asked s q)
    → (answer t r ≡ answer s q) × ((asked t r ≡ asked s q) × (causes t r ≡ causes s q))

-- where each question that is asked for a target finds the same, it comes to the same, and the same is noted of it
abbrev pub EqualFindingsGiveEqualTargets : Type 0
EqualFindingsGiveEqualTargets = (s t : Looks) (q r : Request) (target : Target) → All (FindsSame s q t r) (questions_in (target_part s q target).notes)
    → target_part t r target ≡ target_part s q target

-- and so with a condition among the definitions of its policy
abbrev pub EqualFindingsGiveEqualConditions : Type 0
EqualFindingsGiveEqualConditions = (s t : Looks) (q r : Request) (definitions : List VariableDefinition) (condition : Option Expression)
    → All (FindsSame s q t r) (questions_in (condition_part s q definitions condition).notes) → condition_part t r definitions condition ≡ condition_part s q definitions condition

-- where each recorded look-up gives the same in both, the answers are equal, and so are the recorded keys
abbrev pub EqualLookUpsGiveEqualAnswers : Type 0
EqualLookUpsGiveEqualAnswers = (s t : Looks) (request : Request) → All (IsSameLook s t) (recorded s request)
    → (answer t request ≡ answer s request) × (recorded t request ≡ recorded s request)

-- no key stands twice among those that are recorded for an answer
abbrev pub EachKeyIsRecordedOnce : Type 0
EachKeyIsRecordedOnce = (looks : Looks) (request : Request) (before between after : List ReadKey) (key : ReadKey)
    → recorded looks request ≢ before ++ key ∷ (between ++ key ∷ after)

-- a key is recorded for an answer exactly where it is looked up for it
abbrev pub WhatIsLookedUpIsRecorded : Type 0
WhatIsLookedUpIsRecorded = (looks : Looks) (request : Request) (key : ReadKey) → Contains (recorded looks request) key ↔ Contains (looked_up looks request) key

-- an answer is Indeterminate only where there is a cause, and its status is that of the cause that is named of it
abbrev pub IndeterminateHasItsCause : Type 0
IndeterminateHasItsCause = (looks : Looks) (request : Request) (kind : IndKind)
    → (answer looks request).decision ≡ Ind kind → (cause : Cause) × ((named looks request ≡ Some cause)
    × (Contains (causes looks request) cause × (cause.status ≡ (answer looks request).status)))

-- of one that isn't no cause is named, whatever failed below it
abbrev pub DecidedNamesNoCause : Type 0
DecidedNamesNoCause = (looks : Looks) (request : Request) → has_failed (answer looks request) ≡ false
    → named looks request ≡ None
