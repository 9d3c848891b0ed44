use Rattle.std.proofs.Common.{◌≡◌, drop, slice_get}
use Rattle.ent_finder.specs.Blocks.{rows_in}
use Rattle.ent_finder.proofs.blocks.row_at.Given as goal

-- what is wanted stands at that index of the blocks that are left
abbrev pub invariant-loop-block : goal.invariant-loop-block
invariant-loop-block l = slice_get (rows_in (drop l.block-index l.blocks)) l.left ≡ slice_get (rows_in l.blocks) l.index
