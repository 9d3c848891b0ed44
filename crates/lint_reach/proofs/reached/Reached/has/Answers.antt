use Rattle.lint_reach.proofs.Places.{by_order}
use Rattle.lint_reach.proofs.reached.Reached.has.Goals as goal

pub returns : goal.returns
returns c =
    let found = c.contains.ensures in
    let same = by_order c.args.place.now c.self.inside.places.keys in
    let view = c.self.view_is in
    cc
