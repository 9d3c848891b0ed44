use Rattle.std.proofs.Common.{◌≡◌, ◌-◌, ◌+◌, ◌≤◌, ◌++◌, length, vec_capacity}
use Rattle.ent_cells.specs.Shape.{woven}
use Rattle.ent_cells.proofs.blocks.weave.Given as goal

abbrev pub invariant-loop-done : goal.invariant-loop-done
invariant-loop-done l = record {
  left : l.room.items ++ woven (l.blocks - l.done) l.width l.each l.keys_left l.added_left ≡ woven l.blocks l.width l.each l.keys l.added;
  room : length l.room.items + (length l.keys_left + length l.added_left) ≤ vec_capacity l.room;
}
