use Rattle.std.proofs.Common.{[], ◌++◌, ◌∙◌, ap, arith, map, sym}
use Rattle.std.specs.FinMap.{empty}
use Rattle.ent_finder.specs.Rows.{filled_source}
use Rattle.ent_telling.specs.Attributes.{module_rows, row_data}
use Rattle.ent_telling.specs.proofs_only.Walk.{each_tokens}
use Rattle.ent_telling.proofs.Walks.{module_on, modules_all, numbered}
use Rattle.ent_telling.proofs.attributes.write_rows.Goals as goal

pub loop-number-preserved : goal.loop-number-preserved
loop-number-preserved g c =
    let modules = g.A.Attributes.sources c.args.attributes.now in
    module_on (λ m. map row_data (module_rows c.args.category.now c.args.entity.now (m.0, filled_source m.1))) modules c.loop-number.number
    (record { categories = []; rows = empty }) _ _ _ (omega arith) c.in_ok-write_source.ensures c.loop-number.invariant

pub returns : goal.returns
returns g c =
    let modules = g.A.Attributes.sources c.args.attributes.now in
    let rows = module_rows c.args.category.now c.args.entity.now in
    modules_all (λ m. map row_data (rows (m.0, filled_source m.1))) modules c.loop-number.number _ _ (omega arith) c.loop-number.invariant
    ∙ ap (λ ds. c.args.out.now ++ each_tokens ds) (sym (numbered row_data rows filled_source 0 modules))
