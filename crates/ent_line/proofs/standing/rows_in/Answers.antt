use Rattle.std.proofs.Common.{◌∙◌, arith, sym}
use Rattle.std.specs.FinMap.{entries, len-entries}
use Rattle.ent_finder.specs.RowEntry.{row_entry}
use Rattle.ent_finder.specs.Rows.{is_filled, source_at}
use Rattle.ent_line.proofs.StandingLemmas.{below, count_none, count_on, filled_len, one_at_most}
use Rattle.ent_line.proofs.standing.rows_in.Goals as goal

pub overflow_add-index : goal.overflow_add-index
overflow_add-index g c =
    let source = source_at (g.A.Attributes.sources c.args.attributes.now) c.args.number in
    let here = below (entries source.rows) c.loop-row.index (row_entry c.in-Some.row.now) (sym c.in-Some.ensures.row) in
    let all = len-entries source.rows in
    omega (arith, here, all, c.in-Some.ensures.indexed)

pub overflow_add-count : goal.overflow_add-count
overflow_add-count g c =
    let source = source_at (g.A.Attributes.sources c.args.attributes.now) c.args.number in
    let here = below (entries source.rows) c.loop-row.index (row_entry c.in-Some.row.now) (sym c.in-Some.ensures.row) in
    let all = len-entries source.rows in
    let one = one_at_most (λ e. is_filled e.1) (row_entry c.in-Some.row.now) c.filled-count.result c.filled-count.ensures in
    omega (arith, here, all, one, c.in-Some.ensures.indexed, c.loop-row.invariant.fits)

pub loop-row-preserved : goal.loop-row-preserved
loop-row-preserved g c =
    let source = source_at (g.A.Attributes.sources c.args.attributes.now) c.args.number in
    let one = one_at_most (λ e. is_filled e.1) (row_entry c.in-Some.row.now) c.filled-count.result c.filled-count.ensures in
    record {
      counted = count_on (λ e. is_filled e.1) (entries source.rows) c.loop-row.index (row_entry c.in-Some.row.now) c.loop-row.count c.filled-count.result _
          (sym c.in-Some.ensures.row) c.filled-count.ensures c.loop-row.invariant.counted;
      fits = omega (arith, one, c.loop-row.invariant.fits);
    }

pub loop-row-smaller : goal.loop-row-smaller
loop-row-smaller g c =
    let source = source_at (g.A.Attributes.sources c.args.attributes.now) c.args.number in
    let here = below (entries source.rows) c.loop-row.index (row_entry c.in-Some.row.now) (sym c.in-Some.ensures.row) in
    omega (arith, here)

pub returns : goal.returns
returns g c =
    let source = source_at (g.A.Attributes.sources c.args.attributes.now) c.args.number in
    count_none (λ e. is_filled e.1) (entries source.rows) c.loop-row.index c.loop-row.count _ (sym c.in_default.ensures.row)
    c.loop-row.invariant.counted
    ∙ filled_len source
