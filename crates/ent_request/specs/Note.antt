-- What is noted of an evaluation, in its order: the questions that it asks, and what fails in it by itself.
use Rattle.std.specs.Prelude.{ℕ, List, [], ◌∷◌, Option, Some, None}
use Rattle.std.specs.Option.{option_or}
use Rattle.ent_policy.specs.declared.key.DocKey.{DocKey}
use Rattle.ent_request.specs.declared.answer.Status.{Status}
use Rattle.ent_request.specs.declared.answer.Status.TheVariants.{MissingAttribute, ProcessingError}
use Rattle.ent_request.specs.declared.cause.Cause.{Cause}
use Rattle.ent_request.specs.declared.cause.What.{What}
use Rattle.ent_request.specs.declared.cause.What.TheVariants.{Missing}
use Rattle.ent_request.specs.declared.question.Question.{Question}

pub data Note : Type 0 where
  -- a question is asked
  asks : Question → Note
  -- a part is Indeterminate by itself
  fails : Cause → Note
  -- a part was, and what it is a part of isn't Indeterminate
  passed : Cause → Note

-- the status of what fails: a value must be present and isn't, or a processing error (section 5.55 and appendix B.8)
abbrev pub status_of : What → Status
status_of (Missing asked) = MissingAttribute
status_of what = ProcessingError

-- that something fails here, whichever policy or rule this is
abbrev pub failing : What → List Note
failing what = fails (record { path = []; rule = None; status = status_of what; what = what }) ∷ []

-- a cause, with a policy or a set through which the path to it leads
abbrev pub cause_within : DocKey → Cause → Cause
cause_within key cause = record cause { path = key ∷ cause.path }

-- a note of what is within a policy or a set
abbrev pub note_within : DocKey → Note → Note
note_within key (asks question) = asks question
note_within key (fails cause) = fails (cause_within key cause)
note_within key (passed cause) = passed (cause_within key cause)

-- a cause, with its rule
abbrev pub cause_of_rule : List ℕ → Cause → Cause
cause_of_rule id cause = record cause { rule = option_or cause.rule (Some id) }

-- a note of what is within a rule: what fails there is of that rule
abbrev pub note_of_rule : List ℕ → Note → Note
note_of_rule id (asks question) = asks question
note_of_rule id (fails cause) = fails (cause_of_rule id cause)
note_of_rule id (passed cause) = passed (cause_of_rule id cause)

-- a note of what is a part of something that isn't Indeterminate: what fails there is passed over
abbrev pub passed_over : Note → Note
passed_over (asks question) = asks question
passed_over (fails cause) = passed cause
passed_over (passed cause) = passed cause

-- the first cause that isn't passed over: that of what is Indeterminate, of which these are the notes (section 5.55)
abbrev pub first_cause : List Note → Option Cause
first_cause [] = None
first_cause (asks question ∷ others) = first_cause others
first_cause (fails cause ∷ others) = Some cause
first_cause (passed cause ∷ others) = first_cause others

-- the questions among notes
abbrev pub questions_in : List Note → List Question
questions_in [] = []
questions_in (asks question ∷ others) = question ∷ questions_in others
questions_in (fails cause ∷ others) = questions_in others
questions_in (passed cause ∷ others) = questions_in others

-- what fails among them
abbrev pub causes_in : List Note → List Cause
causes_in [] = []
causes_in (asks question ∷ others) = causes_in others
causes_in (fails cause ∷ others) = cause ∷ causes_in others
causes_in (passed cause ∷ others) = cause ∷ causes_in others
