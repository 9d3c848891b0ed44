use Rattle.std.proofs.Common.{◌≡◌, true, subst, sym}
use Rattle.lint_places.specs.Places.{Spot, has_fault}
use Rattle.lint_places.proofs.Smallest.{whole_has_it}
use Rattle.lint_places.proofs.place.place_of.Goals as goal

pub smallest-requires-clause-faulty : goal.smallest-requires-clause-faulty
smallest-requires-clause-faulty g c =
    subst (λ (s : Spot). has_fault c.args.fault s ≡ true) (sym c.whole.ensures.spot) (whole_has_it (g.J.JsonTree.content c.args.json.now) c.args.fault c.requires)
