use Rattle.std.proofs.Common.{◌+◌, ◌*◌}
use Rattle.serde_json.specs.Data.{depth}
use Rattle.lint_places.proofs.weight.+weigh.Given as goal

abbrev pub decreases-weight : goal.decreases-weight
decreases-weight g l = 4 * depth (g.J.JsonTree.content l.json.now) + 3

abbrev pub decreases-weight_at_keys : goal.decreases-weight_at_keys
decreases-weight_at_keys g l = 4 * depth (g.J.JsonTree.content l.json.now) + 2

abbrev pub decreases-weight_at_key : goal.decreases-weight_at_key
decreases-weight_at_key g l = 4 * depth (g.J.JsonTree.content l.json.now) + 1

abbrev pub decreases-weight_in_list : goal.decreases-weight_in_list
decreases-weight_in_list g l = 4 * depth (g.J.JsonTree.content l.json.now) + 2
