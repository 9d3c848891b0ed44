use Rattle.std.proofs.Common.{◌++◌, ◌+◌, ap, slice_range, sym, ◌∙◌}
use Rattle.ent_finder.proofs.BlockRows.{sorted_block}
use Rattle.ent_finder.proofs.Gathered.{values_in, values_of-rows}
use Rattle.ent_finder.proofs.Lying.{of_both, of_none}
use Rattle.ent_finder.proofs.NamedBlocks.{more_values, no_more_values, sorted_range, values_left}
use Rattle.ent_finder.specs.Blocks.{rows_in}
use Rattle.ent_finder.specs.Looking.{values_of}
use Rattle.ent_finder.specs.RowEntry.{rows_of}
use Rattle.ent_finder.specs.Rows.{filled}
use Rattle.ent_finder.proofs.blocks.named_in_one.Goals as goal

pub loop-block-init : goal.loop-block-init
loop-block-init c = record {
  values = ap values_in c.bounds-start.ensures.named ∙ sym (values_of-rows c.args.key.now (rows_in c.args.blocks.now) c.requires);
  types = of_none c.args.key.now.datatype;
}

pub named_in_one-requires : goal.named_in_one-requires
named_in_one-requires c =
    let blocks = c.args.blocks.now in
    let start = c.bounds-start.result.0 in
    let end = c.bounds-start.result.1 in
    rw c.deref.ensures.value (sorted_block (slice_range blocks start end) c.loop-block.block-index c.block-item.result c.loop-block-test.true c.block-item.is (sorted_range blocks start end c.requires))

pub loop-block-preserved : goal.loop-block-preserved
loop-block-preserved c =
    let blocks = c.args.blocks.now in
    let key = c.args.key.now in
    let start = c.bounds-start.result.0 in
    let end = c.bounds-start.result.1 in
    let index = c.loop-block.block-index in
    let block = c.block-item.result in
    let named = slice_range blocks start end in
    let before = c.loop-block.so_far.now in
    let sorted = sorted_block named index block c.loop-block-test.true c.block-item.is (sorted_range blocks start end c.requires) in
    let here = c.in_ok-named_in_one.ensures.value ∙ ap (λ rs. values_of key (filled (rows_of rs))) c.deref.ensures.value in
    let more = c.in_ok-so_far.ensures ∙ ap (λ vs. before ++ vs) here in
    record {
      values = ap (λ vs. vs ++ values_left key named (index + 1)) more
          ∙ more_values key named index block before c.loop-block-test.true c.block-item.is sorted ∙ c.loop-block.invariant.values;
      types = of_both key.datatype _ before _ c.in_ok-so_far.ensures c.loop-block.invariant.types c.in_ok-named_in_one.ensures.types;
    }

pub returns-clause-value : goal.returns-clause-value
returns-clause-value c =
    let named = slice_range c.args.blocks.now c.bounds-start.result.0 c.bounds-start.result.1 in
    sym (no_more_values c.args.key.now named c.loop-block.block-index c.loop-block.so_far.now c.loop-block-test.false) ∙ c.loop-block.invariant.values
