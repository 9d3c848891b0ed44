use Rattle.std.proofs.Common.{◌++◌, ◌+◌, ap, slice_range, sym, ◌∙◌}
use Rattle.ent_values.specs.Bags.{Contents}
use Rattle.ent_finder.proofs.BlockRows.{sorted_block}
use Rattle.ent_finder.proofs.Gathered.{values_in, values_of-rows}
use Rattle.ent_finder.proofs.NamedBlocks.{more_values, no_more_values, sorted_range, values_left}
use Rattle.ent_finder.proofs.Refusals.{back_empty, front_empty, refused}
use Rattle.ent_finder.specs.Blocks.{rows_in}
use Rattle.ent_finder.specs.Looking.{values_of}
use Rattle.ent_finder.specs.RowEntry.{rows_of}
use Rattle.ent_finder.specs.Rows.{filled}
use Rattle.ent_finder.proofs.blocks.all_values_of.Goals as goal

pub loop-block-init : goal.loop-block-init
loop-block-init c = record {
  datatype = ap (λ (b : Contents). b.datatype) c.new-bag.ensures;
  values = ap (λ (b : Contents). b.values ++ values_left c.args.key.now (slice_range c.args.blocks.now c.bounds-start.result.0 c.bounds-start.result.1) 0) c.new-bag.ensures
      ∙ ap values_in c.bounds-start.ensures.named ∙ sym (values_of-rows c.args.key.now (rows_in c.args.blocks.now) c.requires);
}

pub add_named-requires : goal.add_named-requires
add_named-requires c =
    let blocks = c.args.blocks.now in
    let start = c.bounds-start.result.0 in
    let end = c.bounds-start.result.1 in
    let sorted = sorted_block (slice_range blocks start end) c.loop-block.block-index c.block-item.result c.loop-block-test.true c.block-item.is (sorted_range blocks start end c.requires) in
    record { sorted = rw c.deref.ensures.value sorted; datatype = c.loop-block.invariant.datatype }

pub loop-block-preserved : goal.loop-block-preserved
loop-block-preserved c =
    let blocks = c.args.blocks.now in
    let key = c.args.key.now in
    let start = c.bounds-start.result.0 in
    let end = c.bounds-start.result.1 in
    let index = c.loop-block.block-index in
    let named = slice_range blocks start end in
    let before = c.loop-block.bag.values in
    let sorted = sorted_block named index c.block-item.result c.loop-block-test.true c.block-item.is (sorted_range blocks start end c.requires) in
    record {
      datatype = ap (λ (b : Contents). b.datatype) c.in_ok-add_named.ensures.value ∙ c.loop-block.invariant.datatype;
      values = ap (λ (b : Contents). b.values ++ values_left key named (index + 1)) c.in_ok-add_named.ensures.value
          ∙ ap (λ rs. (before ++ values_of key (filled (rows_of rs))) ++ values_left key named (index + 1)) c.deref.ensures.value
          ∙ more_values key named index c.block-item.result before c.loop-block-test.true c.block-item.is sorted ∙ c.loop-block.invariant.values;
    }

pub returns-clause-value : goal.returns-clause-value
returns-clause-value c =
    let named = slice_range c.args.blocks.now c.bounds-start.result.0 c.bounds-start.result.1 in
    let all = sym (no_more_values c.args.key.now named c.loop-block.block-index c.loop-block.bag.values c.loop-block-test.false) ∙ c.loop-block.invariant.values in
    λ t. record { datatype = c.loop-block.invariant.datatype t; values = all t }

-- memory was refused for values of this block
pub returns-in_err-add_named-clause-memory : goal.returns-in_err-add_named-clause-memory
returns-in_err-add_named-clause-memory c =
    let blocks = c.args.blocks.now in
    let key = c.args.key.now in
    let start = c.bounds-start.result.0 in
    let end = c.bounds-start.result.1 in
    let index = c.loop-block.block-index in
    let block = c.block-item.result in
    let named = slice_range blocks start end in
    let before = c.loop-block.bag.values in
    let sorted = sorted_block named index block c.loop-block-test.true c.block-item.is (sorted_range blocks start end c.requires) in
    refused c.from_residual.result (λ none.
    let whole = more_values key named index block before c.loop-block-test.true c.block-item.is sorted ∙ c.loop-block.invariant.values ∙ none in
    let here = back_empty before (values_of key (filled (rows_of block.rows.items))) (front_empty _ (values_left key named (index + 1)) whole) in
    c.in_err-add_named.ensures.memory (ap (λ rs. values_of key (filled (rows_of rs))) c.deref.ensures.value ∙ here))
