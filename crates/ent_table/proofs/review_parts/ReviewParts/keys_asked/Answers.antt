use Rattle.std.proofs.Common.{IfOk, subst, sym}
use Rattle.ent_index.specs.Asked.{asks_policy}
use Rattle.ent_cells.specs.Cell.{HasReadKeys}
use Rattle.ent_table.specs.proofs_only.Look.{asks}
use Rattle.ent_table.proofs.review_parts.ReviewParts.keys_asked.Goals as goal

pub returns-in-Document : goal.returns-in-Document
returns-in-Document g c =
    let cells = c.args.self.now.table.cells.kept in
    let kind = c.in-Document.key.kind in
    let asked = subst (λ id. IfOk c.keys_of_policy.result (HasReadKeys (asks_policy kind id) cells)) c.as_str.ensures c.keys_of_policy.ensures in
    subst (λ x. IfOk c.keys_of_policy.result (HasReadKeys (asks x) cells)) (sym c.in-Document.is) asked

pub returns-in-Row : goal.returns-in-Row
returns-in-Row g c =
    let cells = c.args.self.now.table.cells.kept in
    subst (λ x. IfOk c.keys_of_row.result (HasReadKeys (asks x) cells)) (sym c.in-Row.is) c.keys_of_row.ensures
