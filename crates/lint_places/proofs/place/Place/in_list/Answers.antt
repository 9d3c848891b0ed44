use Rattle.std.proofs.Common.{Some, find}
use Rattle.lint_places.specs.Parts.{item}
use Rattle.lint_places.specs.Places.{has_fault, in_list, listed}
use Rattle.lint_places.specs.Views.{spot_of}
use Rattle.lint_places.proofs.Finding.{member_found, member_passed, none_of}
use Rattle.lint_places.proofs.place.Place.in_list.Goals as goal

pub returns-in-Some-2-clause-found : goal.returns-in-Some-2-clause-found
returns-in-Some-2-clause-found g c =
    let s = spot_of g.J.JsonTree.content c.args.self.now in
    let is = rw c.in-Some-2.is at c.in_ok-found.ensures.found in
    member_found (has_fault c.args.fault) s c.in-Some.part (listed (Some s.json)) g.J.JsonTree.content c.listed-json-items.result.now c.loop-number.number c.json-item.result
    (spot_of g.J.JsonTree.content c.in-Some-2.found) (find (has_fault c.args.fault) (in_list s (item s.part))) c.loop-number-test.true c.json-item.is is c.loop-number.invariant

pub loop-number-preserved : goal.loop-number-preserved
loop-number-preserved g c =
    let s = spot_of g.J.JsonTree.content c.args.self.now in
    let is = rw (none_of c.in_ok-found.field-0 c.in_default-2.not-Some) at c.in_ok-found.ensures.found in
    member_passed (has_fault c.args.fault) s c.in-Some.part (listed (Some s.json)) g.J.JsonTree.content c.listed-json-items.result.now c.loop-number.number c.json-item.result
    (find (has_fault c.args.fault) (in_list s (item s.part))) c.loop-number-test.true c.json-item.is is c.loop-number.invariant
