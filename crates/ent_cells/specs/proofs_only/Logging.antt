-- Which old answers the steps of an edit find, and put into a log.
use Rattle.std.specs.Prelude.{◌≡◌, ℕ, ◌+◌, List, filter_map, if◌then◌else◌, length, option_and_then, option_map, Option, Some, None}
use Rattle.slab.specs.Slab.{Slab, get}
use Rattle.ent_request.specs.declared.answer.Answer.{Answer}
use Rattle.ent_log.specs.Tables.{KeepsTables, room_of}
use Rattle.ent_log.specs.declared.entry.OldAnswer.{OldAnswer}
use Rattle.ent_log.specs.declared.log.Log.{Log}
use Rattle.ent_cells.specs.declared.cell.Cell.{Cell}
use Rattle.ent_eval.specs.declared.who.Who.{Who}
use Rattle.ent_cells.specs.Entries.{Entry}
use Rattle.ent_cells.specs.proofs_only.Entries.{changes}
use Rattle.ent_cells.specs.proofs_only.Grouping.{replaces}
use Rattle.ent_cells.specs.Order.{request_order}
use Rattle.ent_cells.specs.Cell.{Kept}

-- the answer of a cell, as the old one of its request
abbrev pub old_of : Kept → OldAnswer Who Answer
old_of e = record { key = e.who; answer = Some e.said.answer }

-- the old answer of a cell of which another one is ready
abbrev pub old_at : Entry → Option (OldAnswer Who Answer)
old_at e = if changes e then Some (old_of e.kept) else None

-- those of the cells under some keys
abbrev pub olds_in : Slab Entry → List ℕ → List (OldAnswer Who Answer)
olds_in s keys = filter_map (λ c. option_and_then old_at (get s c)) keys

-- the answers of the cells under some keys, as old ones
abbrev pub gone_in : Slab Entry → List ℕ → List (OldAnswer Who Answer)
gone_in s keys = filter_map (λ c. option_map (λ e. old_of e.kept) (get s c)) keys

-- these old answers were put into a log, of the edit that is being made
pub record Puts (olds : List (OldAnswer Who Answer)) (old new : Log Who Answer) : Type 0 where
  pub from : new.from ≡ old.from
  pub serial : new.serial ≡ old.serial
  pub room : room_of new + length olds ≡ room_of old
  pub kept : KeepsTables request_order olds old new

-- ---- of a cell as it is laid out

-- its answer as the old one of its request
abbrev pub answer_in : Cell → OldAnswer Who Answer
answer_in cell = record { key = cell.who; answer = Some cell.said.answer }

-- its answer so, if another one is ready
abbrev pub replaced_in : Cell → Option (OldAnswer Who Answer)
replaced_in cell = if replaces cell then Some (answer_in cell) else None
