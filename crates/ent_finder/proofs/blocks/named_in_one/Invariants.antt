use Rattle.std.proofs.Common.{◌≡◌, ◌++◌}
use Rattle.ent_values.specs.Bags.{AllOfType}
use Rattle.ent_finder.proofs.NamedBlocks.{values_left}
use Rattle.ent_finder.specs.Blocks.{rows_in}
use Rattle.ent_finder.specs.Looking.{values_of}
use Rattle.ent_finder.specs.RowEntry.{rows_of}
use Rattle.ent_finder.specs.Rows.{filled}
use Rattle.ent_finder.proofs.blocks.named_in_one.Given as goal

-- what one row has and what is in the blocks that are left make up what is wanted
abbrev pub invariant-loop-block : goal.invariant-loop-block
invariant-loop-block l = record {
  values : l.so_far ++ values_left l.key l.named l.block-index ≡ values_of l.key (filled (rows_of (rows_in l.blocks)));
  types : AllOfType l.key.datatype l.so_far;
}
