use Rattle.std.proofs.Common.{◌-◌, ◌<◌, ◌≤◌, ◌+◌, ap, drop, length, refl, slice_get, subst, sym, ◌∙◌}
use Rattle.std.proofs.lemmas.List.{drop_all}
use Rattle.std.proofs.lemmas.Option.{slice_get_read}
use Rattle.ent_finder.proofs.BlockRows.{row_further, row_here}
use Rattle.ent_finder.specs.Blocks.{rows_in}
use Rattle.ent_finder.proofs.blocks.row_at.Goals as goal

pub returns-in-Some : goal.returns-in-Some
returns-in-Some c =
    let rows = c.deref.result.now in
    let left = c.loop-block.left in
    let lookup = c.in-Some.ensures.lookup in
    sym (slice_get_read rows (length rows) left c.in-Some.row.now refl lookup.3.0 lookup.1) ∙ ap (λ rs. slice_get rs left) c.deref.ensures.value
    ∙ sym (row_here c.args.blocks.now c.loop-block.block-index c.block-item.result c.loop-block-test.true c.block-item.is left (subst (λ rs. left < length rs) c.deref.ensures.value lookup.3.0))
    ∙ c.loop-block.invariant

pub loop-block-preserved : goal.loop-block-preserved
loop-block-preserved c =
    let blocks = c.args.blocks.now in
    let index = c.loop-block.block-index in
    let block = c.block-item.result in
    let left = c.loop-block.left in
    let size = c.len-left.ensures ∙ block.rows.ok.0 in
    ap (λ n. slice_get (rows_in (drop (index + 1) blocks)) (left - n)) size
    ∙ row_further blocks index block c.loop-block-test.true c.block-item.is left (subst (λ rs. length rs ≤ left) c.deref.ensures.value c.in_default.ensures.lookup.3)
    ∙ c.loop-block.invariant

pub returns : goal.returns
returns c = sym (ap (λ bs. slice_get (rows_in bs) c.loop-block.left) (drop_all c.loop-block.block-index c.args.blocks.now c.loop-block-test.false)) ∙ c.loop-block.invariant
