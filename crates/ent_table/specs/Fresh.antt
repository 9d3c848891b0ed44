-- When the parts of a review fit each other, and what they are then.
use Rattle.std.specs.Prelude.{◌≡◌, ◌≤◌, ◌^◌, length}
use Rattle.ent_finder.specs.Slots.{document_count}
use Rattle.ent_eval.specs.LooksOf.{held_by}
use Rattle.ent_eval.specs.Point.{Point}
use Rattle.ent_log.specs.Tables.{IsClosed, room_of}
use Rattle.ent_table.specs.declared.review_parts.ReviewParts.{ReviewParts}
use Rattle.ent_table.specs.Limits.{IsWithinGreatest}
use Rattle.ent_table.specs.Reviewed.{Reviewed}
use Rattle.ent_table.specs.State.{State, fresh_cells}

module _ {E A P D : Type 0} where
  -- what the decision point of their evaluator is
  abbrev pub point_of : ReviewParts E A P D → Point
  point_of parts = parts.table.cells.evaluator.pdp

  -- the state of parts
  abbrev pub state_of : ReviewParts E A P D → State
  state_of parts = record {
    held = held_by (point_of parts);
    names = parts.table.names;
    serial = parts.log.serial;
    limits = parts.limits;
  }

  -- the review that they are
  abbrev pub reviewed : ReviewParts E A P D → Reviewed
  reviewed parts = record {
    state = state_of parts;
    past = record { from = parts.log.from; logged = parts.log.entries.items };
    evaluations = (point_of parts).evaluations;
  }

-- the kept cells are the fresh table, the kept count is that of the documents, no edit is being logged, and there is
-- room to log the answer of each cell
pub record IsFresh {E A P D : Type 0} (parts : ReviewParts E A P D) : Type 0 where
  pub cells : parts.table.cells.kept ≡ fresh_cells (state_of parts)
  pub documents : parts.documents ≡ document_count (state_of parts).held.modules
  pub serial : parts.log.serial ≤ 2 ^ 63
  pub limits : IsWithinGreatest parts.limits
  pub closed : IsClosed parts.log
  pub room : length parts.table.cells.kept ≤ room_of parts.log
