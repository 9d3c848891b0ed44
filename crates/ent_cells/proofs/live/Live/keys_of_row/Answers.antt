use Rattle.std.proofs.Common.{IfOk, List, subst, ap}
use Rattle.std.proofs.lemmas.Result.{IfOk-weaker}
use Rattle.ent_index.specs.Asked.{asks_row}
use Rattle.ent_cells.specs.Cell.{Cells, HasReadKeys, Kept}
use Rattle.ent_cells.specs.Entries.{kept_of}
use Rattle.ent_cells.specs.proofs_only.Asked.{HasKeysOf}
use Rattle.ent_cells.proofs.Listed.{are_listed}
use Rattle.ent_cells.proofs.live.Live.keys_of_row.Goals as goal

pub returns : goal.returns
returns g c =
    let asks = asks_row c.args.row.now in
    let s = c.self.inside.store.cells in
    let ks = c.self.inside.keys.items in
    subst (λ (es : List Kept). IfOk c.keys_of_row.result (HasReadKeys asks es)) (ap (λ (x : Cells). x.kept) c.self.view_is)
    (IfOk-weaker c.keys_of_row.result (HasKeysOf asks s) (HasReadKeys asks (kept_of s ks)) (are_listed asks s ks) c.keys_of_row.ensures)
