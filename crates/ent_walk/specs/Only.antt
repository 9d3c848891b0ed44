-- The only child that applies (appendix C.9).
use Rattle.std.specs.Prelude.{Bool, List, [], ◌∷◌, ◌++◌, get_or, Option, Some, None, map, unwrap_or}
use Rattle.ent_combine.specs.Choose.{choose, is_bad}
use Rattle.ent_combine.specs.Seen.{up_to_passing}
use Rattle.ent_combine.specs.declared.chooser.Choice.{Choice}
use Rattle.ent_combine.specs.declared.chooser.Choice.TheVariants as choice
use Rattle.ent_combine.specs.declared.chooser.TargetResult.{TargetResult}
use Rattle.ent_combine.specs.declared.chooser.TargetResult.TheVariants as result
use Rattle.ent_request.specs.declared.answer.Answer.{Answer}
use Rattle.ent_request.specs.declared.answer.Status.{Status}
use Rattle.ent_request.specs.declared.answer.Status.TheVariants.{ProcessingError}
use Rattle.ent_request.specs.declared.cause.What.TheVariants.{Several}
use Rattle.ent_walk.specs.declared.only.Only.{Only}
use Rattle.ent_walk.specs.declared.only.Only.TheVariants as only
use Rattle.ent_walk.specs.declared.target.Targeted.{Targeted}
use Rattle.ent_walk.specs.declared.target.Targeted.TheVariants.{Match, NoMatch, Indeterminate}
use Rattle.ent_request.specs.Plain.{bad, nothing}
use Rattle.ent_request.specs.Note.{Note, failing}
use Rattle.ent_request.specs.Part.{Part, and_then, notes_of, values, without_look}

-- what is chosen by: the status doesn't matter
abbrev pub result_of_target : Targeted → TargetResult
result_of_target Match = result.Match
result_of_target NoMatch = result.NoMatch
result_of_target (Indeterminate status) = result.Indeterminate

-- the same of several
abbrev pub results : List Targeted → List TargetResult
results ts = map result_of_target ts

-- the status of the first target that is Indeterminate
abbrev pub first_target_status : List Targeted → Option Status
first_target_status [] = None
first_target_status (Indeterminate status ∷ ts) = Some status
first_target_status (_ ∷ ts) = first_target_status ts

-- a choice, with what the targets that were seen tell of it: a second match is a processing error
abbrev pub chosen : Choice → List Targeted → Only
chosen choice.Nobody seen = only.Nobody
chosen (choice.Only place) seen = only.Child place
chosen choice.Bad seen = only.Bad (unwrap_or (first_target_status seen) ProcessingError)

-- whether the targets make the choice Bad: one is Indeterminate or two match
abbrev pub spoils : List (Part Targeted) → Bool
spoils targets = is_bad (choose (results (values targets)))

-- the targets up to the first that is Indeterminate or the second that matches
abbrev pub seen_choice : List (Part Targeted) → List (Part Targeted)
seen_choice targets = up_to_passing spoils targets

-- that a choice fails by itself, where the targets that were seen don't: two match
abbrev pub several : Choice → Option Status → List Note
several choice.Bad None = failing Several
several choice.Bad (Some status) = []
several choice.Nobody status = []
several (choice.Only place) status = []

-- which of several children is the only one whose target matches
abbrev pub choice_part : List (Part Targeted) → Part Only
choice_part targets = record {
  value = chosen (choose (results (values targets))) (values (seen_choice targets));
  notes = notes_of (seen_choice targets)
      ++ several (choose (results (values targets))) (first_target_status (values (seen_choice targets)));
}

-- the chosen child alone is evaluated
abbrev pub chosen_part : List (Part Answer) → Only → Part Answer
chosen_part answers only.Nobody = without_look nothing
chosen_part answers (only.Child place) = get_or answers place (without_look nothing)
chosen_part answers (only.Bad status) = without_look (bad status)

-- the only one of several children that applies, by their targets
abbrev pub only_one : List (Part Targeted) → List (Part Answer) → Part Answer
only_one targets answers = and_then (choice_part targets) (chosen_part answers)
