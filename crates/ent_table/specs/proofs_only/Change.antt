-- What the phases of an edit do to the parts of a review.
use Rattle.std.specs.Prelude.{Result, Ok, Err, IsOk, ◌≡◌, ◌≤◌}
use Rattle.ent_cells.specs.Count.{most}
use Rattle.ent_table.specs.declared.edit.EditFault.{EditFault}
use Rattle.ent_table.specs.State.{State}
use Rattle.ent_table.specs.Step.{IsRefusal}
use Rattle.ent_table.specs.declared.edit.Accepted.{Accepted}
use Rattle.ent_table.specs.declared.review_parts.ReviewParts.{ReviewParts}
use Rattle.ent_table.specs.Counted.{IsCounted}
use Rattle.ent_table.specs.Change.{Edits}
use Rattle.ent_table.specs.Fresh.{point_of, reviewed, state_of}
use Rattle.ent_table.specs.Tables.{KeepsTables}

-- a test found no refusal but want of memory, or the one that stands
abbrev pub IsTested : {A : Type 0} → Result State EditFault → Result A EditFault → Type 0
IsTested r (Ok done) = IsOk r
IsTested r (Err fault) = IsRefusal r fault

-- a step is tried on the state: it has no fault but want of memory, or the one that is told
abbrev pub Tries : {E A P D B : Type 0} → (State → Result State EditFault) → ReviewParts E A P D → Result B EditFault → Type 0
Tries step v result = IsTested (step (state_of v)) result

-- the state becomes what a change makes of it
abbrev pub Becomes : {E A P D : Type 0} → (State → State) → ReviewParts E A P D → ReviewParts E A P D → Type 0
Becomes change old new = state_of new ≡ change (state_of old)

-- the state stays
abbrev pub Stays : {E A P D : Type 0} → ReviewParts E A P D → ReviewParts E A P D → Type 0
Stays old new = state_of new ≡ state_of old

-- the state becomes another by a step, and it is answered as that step is
abbrev pub Makes : {E A P D : Type 0} → (State → Result State EditFault)
    → ReviewParts E A P D → ReviewParts E A P D → Result Accepted EditFault → Type 0
Makes step old new result = Edits step (state_of old) (state_of new) result

-- the table at each serial so far stays what it was
abbrev pub Keeps : {E A P D : Type 0} → ReviewParts E A P D → ReviewParts E A P D → Type 0
Keeps old new = KeepsTables (reviewed old) (reviewed new)

-- the count of evaluations rises with an edit as its step says
abbrev pub Counted : {E A P D : Type 0} → (State → Result State EditFault)
    → ReviewParts E A P D → ReviewParts E A P D → Result Accepted EditFault → Type 0
Counted step old new result =
    (point_of old).evaluations ≤ most
    → IsCounted (step (state_of old)) (state_of old) (point_of old).evaluations (point_of new).evaluations result
