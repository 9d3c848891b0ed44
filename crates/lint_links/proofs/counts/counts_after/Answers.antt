use Rattle.std.proofs.Common.{◌∙◌, ◌^◌, ◌-◌, ap, map}
use Rattle.lint_links.proofs.Followed.{at_none, one_further}
use Rattle.lint_links.specs.proofs_only.Rows.{counted_row}
use Rattle.lint_links.proofs.counts.counts_after.Goals as goal

pub loop-init : goal.loop-init
loop-init c = at_none (2 ^ 64 - 1) (λ row. row.items) c.args.rows.now c.in_ok-counts.counts.items c.in_ok-counts.ensures

pub loop-preserved : goal.loop-preserved
loop-preserved c =
    let given = c.in_ok-counts-2.ensures ∙ ap (λ counts. map (λ row. counted_row (2 ^ 64 - 1) counts row.items) c.args.rows.now) c.as_slice.ensures.value in
    one_further (2 ^ 64 - 1) (λ row. row.items) c.args.rows.now c.loop.counts.items _ c.loop.counter c.loop.invariant given
