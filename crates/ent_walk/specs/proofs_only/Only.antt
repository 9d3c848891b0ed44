-- What a target tells that spoils a choice: words of the code's own contracts.
use Rattle.std.specs.Prelude.{List, []}
use Rattle.ent_request.specs.declared.answer.Status.{Status}
use Rattle.ent_request.specs.declared.answer.Status.TheVariants.{ProcessingError}
use Rattle.ent_walk.specs.declared.target.Targeted.{Targeted}
use Rattle.ent_request.specs.declared.cause.What.TheVariants.{Several}
use Rattle.ent_walk.specs.declared.target.Targeted.TheVariants.{Indeterminate}
use Rattle.ent_request.specs.Note.{Note, failing}

-- the status of a target that is Indeterminate; a second match is a processing error
abbrev pub status_of_target : Targeted → Status
status_of_target (Indeterminate status) = status
status_of_target _ = ProcessingError

-- that a second match fails
abbrev pub second_match : Targeted → List Note
second_match (Indeterminate status) = []
second_match _ = failing Several
