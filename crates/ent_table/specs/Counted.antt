-- The cells that an edit touches, and by how much they raise the count of evaluations.
use Rattle.std.specs.Prelude.{◌≡◌, ℕ, ◌≤◌, ◌||◌, Bool, not, filter, length, Result, Ok, Err}
use Rattle.std.specs.List.{list_any}
use Rattle.ent_cells.specs.Count.{raised}
use Rattle.ent_walk.specs.Answer.{recorded}
use Rattle.ent_request.specs.Held.{looks_in}
use Rattle.ent_request.specs.Listed.{listed}
use Rattle.ent_request.specs.SameLook.{same_look}
use Rattle.ent_table.specs.declared.edit.Accepted.{Accepted}
use Rattle.ent_table.specs.declared.edit.EditFault.{EditFault}
use Rattle.ent_table.specs.declared.edit.EditFault.TheVariants.{Memory}
use Rattle.ent_table.specs.Names.{Triple, is_listed, triples}
use Rattle.ent_table.specs.State.{State}

-- whether an edit from s to t touches a request that t lists: s doesn't list it, or a look-up on which its answer rests
-- gives another in t
abbrev pub touched : State → State → Triple → Bool
touched s t x =
    not (is_listed s.names x)
    || list_any (λ k. not (same_look (looks_in s.held) (looks_in t.held) k))
    (recorded (looks_in s.held) (listed x.person x.action x.resource))

-- how many cells it touches
abbrev pub touched_count : State → State → ℕ
touched_count s t = length (filter (touched s t) (triples t.names))

-- an accepted edit raises the count by the cells that it touches, one refused for want of memory by no more, any other
-- not at all
abbrev pub IsCounted : Result State EditFault → State → ℕ → ℕ → Result Accepted EditFault → Type 0
IsCounted (Ok t) s before after (Ok accepted) = after ≡ raised before (touched_count s t)
IsCounted (Ok t) s before after (Err Memory) = (before ≤ after) × (after ≤ raised before (touched_count s t))
IsCounted _ s before after _ = after ≡ before
