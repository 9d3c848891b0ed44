use Rattle.serde_json.specs.Data.{depth}
use Rattle.lint_places.proofs.place.+smallest.Given as goal

abbrev pub decreases-smallest : goal.decreases-smallest
decreases-smallest g l = depth (g.J.JsonTree.content l.place.json.now)
