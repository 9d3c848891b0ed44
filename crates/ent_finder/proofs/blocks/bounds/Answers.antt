use Rattle.std.proofs.Common.{rules, arith}
use Rattle.std.specs.Ordering.{is_le, is_lt}
use Rattle.std.proofs.lemmas.List.Sorted.{IsPartitionPoint-from_clause}
use Rattle.ent_finder.proofs.BlockRows.{first_rises}
use Rattle.ent_finder.proofs.Fronts.{rest, rest_within}
use Rattle.ent_finder.proofs.NamedBlocks.{named_between, to_named, to_named_follows}
use Rattle.ent_finder.proofs.Ranges.{ends_after, le_partitioned_rest, lt_partitioned}
use Rattle.ent_finder.specs.proofs_only.Blocks.{first_cmp}
use Rattle.ent_finder.specs.declared.block.Block.{Block}
use Rattle.ent_finder.proofs.blocks.bounds.Goals as goal

-- the first rows rise towards those that the key names, so the start is where one test changes, and the end where another does from there on
pub returns : goal.returns
returns c =
    let blocks = c.args.blocks.now in
    let key = c.args.key.now in
    let order = λ (b : Block). first_cmp (to_named key) b.rows.items in
    let rises = first_rises (to_named key) (to_named_follows key) blocks c.requires in
    let passed = c.partition_point-passed.result in
    let first = c.partition_point-passed.ensures in
    let begun = c.count_passing-begun.result in
    let last = c.count_passing-begun.ensures in
    let starts = IsPartitionPoint-from_clause (λ b. is_lt (order b)) blocks _ first.partitioned (lt_partitioned order blocks rises) (λ a r f called. search rules) in
    let more = IsPartitionPoint-from_clause (λ b. is_le (order b)) (rest passed blocks) _ last.partitioned (le_partitioned_rest order blocks rises passed first.bound) (λ a r f called. search rules) in
    let ends = ends_after order blocks rises passed first.bound begun starts more in
    record {
      ordered = omega (arith, c.saturating_sub.ensures);
      within = rest_within blocks passed begun first.bound last.bound;
      named = rw c.saturating_sub.ensures (named_between key blocks c.requires _ _ first.bound (omega arith) starts ends);
    }
