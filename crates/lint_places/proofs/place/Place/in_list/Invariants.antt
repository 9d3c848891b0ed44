use Rattle.std.proofs.Common.{◌≡◌, Some, find}
use Rattle.lint_places.specs.Parts.{item}
use Rattle.lint_places.specs.Places.{has_fault, in_list, listed}
use Rattle.lint_places.specs.Views.{spot_of}
use Rattle.lint_places.proofs.Finding.{from_member}
use Rattle.lint_places.proofs.place.Place.in_list.Given as goal

abbrev pub invariant-loop-number : goal.invariant-loop-number
invariant-loop-number g l =
    let s = spot_of g.J.JsonTree.content l.self in
    from_member (has_fault l.fault) s l.part (listed (Some s.json)) g.J.JsonTree.content l.json-items l.number ≡ find (has_fault l.fault) (in_list s (item s.part))
