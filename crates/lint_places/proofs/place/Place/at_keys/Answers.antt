use Rattle.std.proofs.Common.{[], find, get_or}
use Rattle.std.proofs.lemmas.List.{get_or_default}
use Rattle.serde_json.specs.Find.{get}
use Rattle.lint_places.specs.Places.{at_key, at_keys, has_fault}
use Rattle.lint_places.specs.Views.{spot_of}
use Rattle.lint_places.specs.declared.part.Part.TheVariants as part
use Rattle.lint_places.proofs.Finding.{none_of, row_found, row_passed}
use Rattle.lint_places.proofs.place.Place.at_keys.Goals as goal

pub returns-in-Some-clause-found : goal.returns-in-Some-clause-found
returns-in-Some-clause-found g c =
    let s = spot_of g.J.JsonTree.content c.args.self.now in
    let is = rw c.in-Some.is at c.in_ok-found.ensures.found in
    row_found (has_fault c.args.fault) (λ row. at_key s row (get row.0 s.json)) (λ r. (r.0.now, r.1)) c.rows-row-items.result.now c.loop-row.row-index (get_or c.rows-row-items.result.now c.loop-row.row-index (record { ref_ptr = (0, 0); now = [] }, part.Document))
    (spot_of g.J.JsonTree.content c.in-Some.found) (find (has_fault c.args.fault) (at_keys s)) c.loop-row-test.true (get_or_default _ _ _ _ c.loop-row-test.true) is c.loop-row.invariant

pub loop-row-preserved : goal.loop-row-preserved
loop-row-preserved g c =
    let s = spot_of g.J.JsonTree.content c.args.self.now in
    let is = rw (none_of c.in_ok-found.field-0 c.in_default.not-Some) at c.in_ok-found.ensures.found in
    row_passed (has_fault c.args.fault) (λ row. at_key s row (get row.0 s.json)) (λ r. (r.0.now, r.1)) c.rows-row-items.result.now c.loop-row.row-index (get_or c.rows-row-items.result.now c.loop-row.row-index (record { ref_ptr = (0, 0); now = [] }, part.Document))
    (find (has_fault c.args.fault) (at_keys s)) c.loop-row-test.true (get_or_default _ _ _ _ c.loop-row-test.true) is c.loop-row.invariant
