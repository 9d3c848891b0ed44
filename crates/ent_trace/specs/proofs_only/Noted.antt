-- What is noted of an evaluation so far: words of the code's own contracts.
use Rattle.std.specs.Prelude.{ℕ, List, [], ◌∷◌, ◌++◌, Bool, true, if◌then◌else◌, Option, Some, None, is_some}
use Rattle.std.specs.Prelude.{option_and_then, option_map, length, take, ◌-◌}
use Rattle.std.specs.Option.{option_or}
use Rattle.ent_policy.specs.declared.document.Designator.{Designator}
use Rattle.ent_policy.specs.declared.key.DocKey.{DocKey}
use Rattle.ent_request.specs.declared.cause.Cause.{Cause}
use Rattle.ent_trace.specs.declared.causes.Causes.{Causes}
use Rattle.ent_request.specs.declared.question.Question.{Question}
use Rattle.ent_request.specs.declared.question.Question.TheVariants.{Of}
use Rattle.ent_request.specs.Note.{Note, asks, fails, passed}
use Rattle.ent_request.specs.Sources.{asked_of}
use Rattle.ent_trace.specs.proofs_only.Met.{Met, all_passed, with_failing, with_passed}
pub use Rattle.ent_request.specs.Questions.{asked_once, is_asked, same_question, with_question}

-- the questions, each once so far, if they are asked for; what failed, each once, if that is asked for; and whether
-- anything did
pub record Notes : Type 0 where
  pub questions : Option (List Question)
  pub causes : Option Causes
  pub failed : Bool

-- the questions, with one more
abbrev pub with_asked : Option (List Question) → Question → Option (List Question)
with_asked None question = None
with_asked (Some questions) question = Some (with_question questions question)

-- a cause, where the evaluation is
abbrev pub placed : Causes → Cause → Cause
placed k cause = record cause { path = k.path ++ cause.path; rule = option_or cause.rule k.rule }

-- what failed, with one cause more, as `add` adds it
abbrev pub with_more : (Met → Cause → Met) → Causes → Cause → Causes
with_more add k cause = record k { told = add k.told (placed k cause) }

-- the same, if that is asked for
abbrev pub with_failure : (Met → Cause → Met) → Option Causes → Cause → Option Causes
with_failure add None cause = None
with_failure add (Some k) cause = Some (with_more add k cause)

-- the notes, with one more
abbrev pub with_note : Notes → Note → Notes
with_note notes (asks question) = record notes { questions = with_asked notes.questions question }
with_note notes (fails cause) = record notes { causes = with_failure with_failing notes.causes cause; failed = true }
with_note notes (passed cause) = record notes { causes = with_failure with_passed notes.causes cause; failed = true }

-- the notes, with several more
abbrev pub noting : Notes → List Note → Notes
noting notes [] = notes
noting notes (more ∷ others) = noting (with_note notes more) others

-- whether a cause is noted that isn't passed over, if causes are asked for
abbrev pub is_named : Notes → Bool
is_named notes = is_some (option_and_then (λ (k : Causes). k.told.named) notes.causes)

-- the notes, where all causes are passed over
abbrev pub passing : Notes → Notes
passing notes =
    record notes { causes = option_map (λ (k : Causes). record k { told = all_passed k.told }) notes.causes }

-- the same, unless one was named before
abbrev pub passing_unless : Bool → Notes → Notes
passing_unless was_named notes = if was_named then notes else passing notes

-- the same, unless what was evaluated meanwhile is Indeterminate
abbrev pub settling : Bool → Bool → Notes → Notes
settling was_named is_so notes = if is_so then notes else passing_unless was_named notes

-- the notes of an evaluation that goes into a policy or a set
abbrev pub entering : Notes → DocKey → Notes
entering notes key = record notes { causes = option_map (λ (k : Causes). record k { path = k.path ++ key ∷ [] }) notes.causes }

-- and out of it
abbrev pub leaving : Notes → Notes
leaving notes = record notes { causes = option_map (λ (k : Causes). record k { path = take (length k.path - 1) k.path }) notes.causes }

-- the rule that an evaluation is in, if it is told
abbrev pub rule_in : Notes → Option (List ℕ)
rule_in notes = option_and_then (λ (k : Causes). k.rule) notes.causes

-- the notes of an evaluation that goes into a rule, or out of it into what it was in before
abbrev pub in_rule : Notes → Option (List ℕ) → Notes
in_rule notes rule = record notes { causes = option_map (λ (k : Causes). record k { rule = rule }) notes.causes }

-- what is asked for a designator, if there is one
abbrev pub asked_by : Option Designator → List Note
asked_by None = []
asked_by (Some d) = asks (Of (asked_of d)) ∷ []
