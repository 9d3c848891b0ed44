use Rattle.std.proofs.Common.{get_or, map}
use Rattle.std.proofs.lemmas.List.{get_or_default}
use Rattle.serde_json.specs.Find.{get}
use Rattle.lint_places.specs.Faults.{faulty}
use Rattle.lint_places.specs.Places.{at_key, at_keys}
use Rattle.lint_places.specs.Views.{fault_at, spot_of}
use Rattle.lint_places.proofs.Noting.{row_noted}
use Rattle.lint_places.proofs.place.Place.note_at_keys.Goals as goal

pub loop-row-preserved : goal.loop-row-preserved
loop-row-preserved g c =
    let content = g.J.JsonTree.content in
    let s = spot_of content c.args.self.now in
    row_noted (λ row. at_key s row (get row.0 s.json)) (λ r. (r.0.now, r.1)) c.rows-row-items.result.now c.loop-row.row-index _
    _ _ (map (fault_at content) c.args.found.now.items) (faulty (at_keys s)) c.loop-row-test.true (get_or_default _ _ _ _ c.loop-row-test.true) c.in_ok-note_at_key.ensures c.loop-row.invariant
