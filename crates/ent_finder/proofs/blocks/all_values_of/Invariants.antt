use Rattle.std.proofs.Common.{◌≡◌, ◌++◌}
use Rattle.ent_finder.proofs.NamedBlocks.{values_left}
use Rattle.ent_finder.specs.Blocks.{rows_in}
use Rattle.ent_finder.specs.Looking.{values_of}
use Rattle.ent_finder.specs.RowEntry.{rows_of}
use Rattle.ent_finder.specs.Rows.{filled}
use Rattle.ent_finder.proofs.blocks.all_values_of.Given as goal

-- what is in the bag and what is in the blocks that are left make up what is to be there
abbrev pub invariant-loop-block : goal.invariant-loop-block
invariant-loop-block l = record {
  datatype : l.bag.datatype ≡ l.key.datatype;
  values : l.bag.values ++ values_left l.key l.named l.block-index ≡ values_of l.key (filled (rows_of (rows_in l.blocks)));
}
