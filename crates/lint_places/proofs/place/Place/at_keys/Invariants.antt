use Rattle.std.proofs.Common.{◌≡◌, find}
use Rattle.serde_json.specs.Find.{get}
use Rattle.lint_places.specs.Places.{at_key, at_keys, has_fault}
use Rattle.lint_places.specs.Views.{spot_of}
use Rattle.lint_places.proofs.Finding.{from_row}
use Rattle.lint_places.proofs.place.Place.at_keys.Given as goal

abbrev pub invariant-loop-row : goal.invariant-loop-row
invariant-loop-row g l =
    let s = spot_of g.J.JsonTree.content l.self in
    from_row (has_fault l.fault) (λ row. at_key s row (get row.0 s.json)) (λ r. (r.0.now, r.1)) l.row-items l.row-index ≡ find (has_fault l.fault) (at_keys s)
