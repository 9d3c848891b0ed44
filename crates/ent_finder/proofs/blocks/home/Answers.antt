use Rattle.std.proofs.Common.{rules}
use Rattle.std.specs.Ordering.{is_le}
use Rattle.std.proofs.lemmas.List.Sorted.{IsPartitionPoint-from_clause}
use Rattle.ent_finder.proofs.BlockRows.{first_rises}
use Rattle.ent_finder.proofs.Homes.{home_found, to_key, to_key_follows}
use Rattle.ent_finder.proofs.Ranges.{le_partitioned}
use Rattle.ent_finder.specs.proofs_only.Blocks.{first_cmp}
use Rattle.ent_finder.specs.declared.block.Block.{Block}
use Rattle.ent_finder.proofs.blocks.home.Goals as goal

-- the first rows rise, so the search finds the first block that begins behind the key
pub returns-clause-home : goal.returns-clause-home
returns-clause-home c =
    let blocks = c.args.blocks.now in
    let key = c.args.key.now in
    let order = λ (b : Block). first_cmp (to_key key) b.rows.items in
    let rises = first_rises (to_key key) (to_key_follows key) blocks c.requires in
    let found = c.partition_point-begun.ensures in
    let at = IsPartitionPoint-from_clause (λ b. is_le (order b)) blocks _ found.partitioned (le_partitioned order blocks rises) (λ a r f called. search rules) in
    rw c.saturating_sub.ensures (home_found key blocks c.requires _ found.bound at)
