use Rattle.std.proofs.Common.{[], arith}
use Rattle.std.specs.FinMap.{empty}
use Rattle.ent_line.proofs.StandingLemmas.{module_counted, modules_counted}
use Rattle.ent_line.proofs.standing.row_count.Goals as goal

pub loop-number-preserved : goal.loop-number-preserved
loop-number-preserved g c =
    let sources = g.A.Attributes.sources c.args.attributes.now in
    module_counted sources c.loop-number.number (record { categories = []; rows = empty }) c.loop-number.count c.rows_in-rows.result _ (omega arith)
    c.rows_in-rows.ensures c.loop-number.invariant

pub returns : goal.returns
returns g c = modules_counted (g.A.Attributes.sources c.args.attributes.now) c.loop-number.number c.loop-number.count _ (omega arith) c.loop-number.invariant
