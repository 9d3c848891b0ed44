use Rattle.std.proofs.Common.{ap}
use Rattle.ent_cells.specs.Cell.{Cells}
use Rattle.ent_request.specs.Held.{Held}
use Rattle.ent_table.specs.Fresh.{state_of}
use Rattle.ent_table.proofs.Held.{when_err, when_ok}
use Rattle.ent_table.proofs.review_parts.ReviewParts.exchange.Goals as goal

pub returns-clause-made : goal.returns-clause-made
returns-clause-made g c =
    let s = state_of c.args.self.now in
    when_ok c.exchange.result (λ e. ap (λ (h : Held). record s { held = h }) e) c.exchange.ensures.made

pub returns-clause-kept : goal.returns-clause-kept
returns-clause-kept g c =
    let s = state_of c.args.self.now in
    when_err c.exchange.result (λ e. ap (λ (h : Held). record s { held = h }) e) c.exchange.ensures.stayed

pub returns-clause-rest : goal.returns-clause-rest
returns-clause-rest g c =
    let old = c.args.self.now in
    ap (λ (cells : Cells). record old { table = record old.table { cells = cells } }) c.exchange.ensures.rest
