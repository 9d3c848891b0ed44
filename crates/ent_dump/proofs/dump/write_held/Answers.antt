use Rattle.std.proofs.Common.{map}
use Rattle.ent_finder.specs.Rows.{filled_source}
use Rattle.ent_finder.specs.Slots.{held}
use Rattle.law_rebuild.specs.Rebuilding.{all_documents, all_rows, environment_edits, root_edits}
use Rattle.ent_dump.proofs.Walks.{lines_end}
use Rattle.ent_dump.proofs.dump.write_held.Goals as goal

pub returns : goal.returns
returns g c =
    let pdp = c.args.pdp.now in
    let documents = all_documents (map held pdp.slots) in
    let rows = all_rows (map filled_source pdp.sources) in
    let environment = environment_edits pdp.environment in
    let root = root_edits pdp.root in
    lines_end _ _ _ _ documents _ (rw c.policies.ensures at c.in_ok-write_policies.ensures)
    (lines_end _ _ _ _ rows _ (rw c.attributes.ensures at c.in_ok-write_attributes.ensures)
    (lines_end _ _ _ _ environment root (rw c.environment.ensures at c.in_ok-write_environment.ensures) (rw c.root.ensures at c.write_root.ensures)))
