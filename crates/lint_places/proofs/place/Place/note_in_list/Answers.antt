use Rattle.std.proofs.Common.{Some, map}
use Rattle.lint_places.specs.Faults.{faulty}
use Rattle.lint_places.specs.Parts.{item}
use Rattle.lint_places.specs.Places.{in_list, listed}
use Rattle.lint_places.specs.Views.{fault_at, spot_of}
use Rattle.lint_places.proofs.Noting.{member_noted}
use Rattle.lint_places.proofs.place.Place.note_in_list.Goals as goal

pub loop-number-preserved : goal.loop-number-preserved
loop-number-preserved g c =
    let content = g.J.JsonTree.content in
    let s = spot_of content c.args.self.now in
    member_noted s c.in-Some.part (listed (Some s.json)) content c.listed-json-items.result.now c.loop-number.number c.json-item.result
    _ _ (map (fault_at content) c.args.found.now.items) (faulty (in_list s (item s.part))) c.loop-number-test.true c.json-item.is c.in_ok-note_member.ensures c.loop-number.invariant
