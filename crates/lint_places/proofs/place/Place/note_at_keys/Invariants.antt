use Rattle.std.proofs.Common.{◌≡◌, ◌++◌, map}
use Rattle.serde_json.specs.Find.{get}
use Rattle.lint_places.specs.Faults.{faulty}
use Rattle.lint_places.specs.Places.{at_key, at_keys}
use Rattle.lint_places.specs.Views.{fault_at, spot_of}
use Rattle.lint_places.proofs.Noting.{from_row}
use Rattle.lint_places.proofs.place.Place.note_at_keys.Given as goal

-- those that were noted, and those at the rows that are left
abbrev pub invariant-loop-row : goal.invariant-loop-row
invariant-loop-row g l =
    let s = spot_of g.J.JsonTree.content l.self in
    map (fault_at g.J.JsonTree.content) l.found.items ++ faulty (from_row (λ row. at_key s row (get row.0 s.json)) (λ r. (r.0.now, r.1)) l.row-items l.row-index)
    ≡ map (fault_at g.J.JsonTree.content) l.fn.found.items ++ faulty (at_keys s)
