use Rattle.std.proofs.Common.{◌≡◌, ◌++◌, Some, map}
use Rattle.lint_places.specs.Faults.{faulty}
use Rattle.lint_places.specs.Parts.{item}
use Rattle.lint_places.specs.Places.{in_list, listed}
use Rattle.lint_places.specs.Views.{fault_at, spot_of}
use Rattle.lint_places.proofs.Noting.{from_member}
use Rattle.lint_places.proofs.place.Place.note_in_list.Given as goal

-- those that were noted, and those of the members that are left
abbrev pub invariant-loop-number : goal.invariant-loop-number
invariant-loop-number g l =
    let s = spot_of g.J.JsonTree.content l.self in
    map (fault_at g.J.JsonTree.content) l.found.items ++ faulty (from_member s l.part (listed (Some s.json)) g.J.JsonTree.content l.json-items l.number)
    ≡ map (fault_at g.J.JsonTree.content) l.fn.found.items ++ faulty (in_list s (item s.part))
