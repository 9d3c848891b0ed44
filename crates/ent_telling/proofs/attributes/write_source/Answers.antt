use Rattle.std.proofs.Common.{◌++◌, ◌∙◌, ap, arith}
use Rattle.std.specs.FinMap.{entries, len-entries}
use Rattle.ent_finder.specs.RowEntry.{row_entry}
use Rattle.ent_finder.specs.Rows.{source_at}
use Rattle.ent_telling.specs.proofs_only.Walk.{each_tokens, filled_data}
use Rattle.ent_telling.proofs.Told.{source_told}
use Rattle.ent_telling.proofs.Walks.{found, not_found, walked, walked_all, walked_on}
use Rattle.ent_telling.proofs.attributes.write_source.Goals as goal

pub loop-index-preserved : goal.loop-index-preserved
loop-index-preserved g c =
    let source = source_at (g.A.Attributes.sources c.args.attributes.now) c.args.number in
    walked_on (filled_data c.args.category.now c.args.entity.now c.args.number) (entries source.rows) c.loop-index.index (row_entry c.in-Some.row.now) _ _ _
    (found row_entry _ c.in-Some.row _ c.in-Some.is c.row_at-in-loop-index.ensures.row) c.in_ok-write_if_asked.ensures c.loop-index.invariant

pub returns-in_default : goal.returns-in_default
returns-in_default g c =
    let source = source_at (g.A.Attributes.sources c.args.attributes.now) c.args.number in
    walked (filled_data c.args.category.now c.args.entity.now c.args.number) (entries source.rows) c.loop-index.index _ _
    (not_found row_entry _ _ c.in_default.is c.row_at-in-loop-index.ensures.row) c.loop-index.invariant
    ∙ ap (λ ds. c.args.out.now ++ each_tokens ds) (source_told c.args.category.now c.args.entity.now c.args.number source)

pub returns : goal.returns
returns g c =
    let source = source_at (g.A.Attributes.sources c.args.attributes.now) c.args.number in
    let counted = len-entries source.rows in
    walked_all (filled_data c.args.category.now c.args.entity.now c.args.number) (entries source.rows) c.loop-index.index _ _
    (omega (arith, counted, c.row_at.ensures.indexed)) c.loop-index.invariant
    ∙ ap (λ ds. c.args.out.now ++ each_tokens ds) (source_told c.args.category.now c.args.entity.now c.args.number source)
