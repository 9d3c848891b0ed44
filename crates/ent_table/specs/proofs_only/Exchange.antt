-- One thing of what is held that is exchanged with what stands there.
use Rattle.std.specs.Prelude.{◌≡◌, ℕ, Result, Ok, Option, None}
use Rattle.ent_policy.specs.declared.document.Tree.{Tree}
use Rattle.ent_finder.specs.Slots.{document_count}
use Rattle.ent_eval.specs.Exchange.{FitsHeld, HasPlace, held_with, taken_from}
use Rattle.ent_eval.specs.declared.exchange.Exchange.{Exchange}
use Rattle.ent_eval.specs.declared.exchange.Exchange.TheVariants.{Document}
use Rattle.ent_table.specs.declared.edit.EditFault.{EditFault}
use Rattle.ent_table.specs.declared.edit.EditFault.TheVariants.{Limit}
use Rattle.ent_table.specs.declared.review_parts.ReviewParts.{ReviewParts}
use Rattle.ent_table.specs.Fresh.{point_of, state_of}
use Rattle.ent_table.specs.State.{State}
use Rattle.ent_table.specs.Step.{is_last, next, unless}

-- the state after it
abbrev pub with_exchange : State → Exchange → State
with_exchange s x = record s { held = held_with s.held x }

-- what stands there before it, which exchanged takes it back
abbrev pub taken : State → Exchange → Exchange
taken s x = taken_from s.held x

-- the document that is exchanged, if it is one
abbrev pub document_in : Exchange → Option Tree
document_in (Document number key document) = document
document_in _ = None

-- the step that it makes, one serial later
abbrev pub exchanged : State → Exchange → Result State EditFault
exchanged s x = Ok (next (with_exchange s x))

-- that step, unless the serial is the last
abbrev pub exchanged_unless_last : State → Exchange → Result State EditFault
exchanged_unless_last s x = unless (is_last s) Limit (exchanged s x)

-- there is a module of that number, and what is to stand in it is of the key
abbrev pub IsWithin : State → Exchange → Type 0
IsWithin s x = FitsHeld s.held x

-- there is a place for it, so that it takes no memory
abbrev pub IsThere : {E A P D : Type 0} → ReviewParts E A P D → Exchange → Type 0
IsThere v x = HasPlace (point_of v) x

-- how many documents are held after it
abbrev pub count_with : State → Exchange → ℕ
count_with s x = document_count (with_exchange s x).held.modules

-- only what is held changed, and what its evaluator remembers
abbrev pub OnlyHeld : {E A P D : Type 0} → ReviewParts E A P D → ReviewParts E A P D → Type 0
OnlyHeld old new = new ≡ record old {
  table = record old.table { cells = record old.table.cells { evaluator = new.table.cells.evaluator } };
}

-- the same number of evaluations is counted
abbrev pub CountsSame : {E A P D : Type 0} → ReviewParts E A P D → ReviewParts E A P D → Type 0
CountsSame old new = (point_of new).evaluations ≡ (point_of old).evaluations

-- a review became another by an exchange, of which this stood there
abbrev pub IsMade : {E A P D : Type 0} → ReviewParts E A P D → ReviewParts E A P D → Exchange → Type 0
IsMade before now back =
    (x : Exchange) × IsWithin (state_of before) x
    × (state_of now ≡ with_exchange (state_of before) x)
    × (back ≡ taken (state_of before) x)
