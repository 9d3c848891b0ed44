use Rattle.std.proofs.Common.{◌≡◌, true, subst, sym}
use Rattle.lint_places.specs.Places.{Spot, has_fault}
use Rattle.lint_places.specs.Views.{spot_of}
use Rattle.lint_places.proofs.Smallest.{whole_has_it}
use Rattle.lint_places.proofs.Telling.{only_first, within_itself}
use Rattle.lint_places.proofs.faults.places_of.Goals as goal

pub walk-requires : goal.walk-requires
walk-requires g c =
    subst (λ (s : Spot). has_fault c.args.fault s ≡ true) (sym c.whole.ensures.spot) (whole_has_it (g.J.JsonTree.content c.args.json.now) c.args.fault c.requires)

pub returns-clause-right : goal.returns-clause-right
returns-clause-right g c =
    let content = g.J.JsonTree.content in
    let d = content c.args.json.now in
    let keeps = rw c.whole.ensures.spot at c.in_ok-walk.ensures.right in
    keeps c.args.fault d (within_itself d)
    (rw c.in_ok-faults.ensures (only_first c.args.fault (spot_of content c.in_ok-first.first) d c.in_ok-first.ensures.stands c.in_ok-first.ensures.first))

pub returns-clause-each : goal.returns-clause-each
returns-clause-each g c = rw c.whole.ensures.spot at c.in_ok-walk.ensures.each
