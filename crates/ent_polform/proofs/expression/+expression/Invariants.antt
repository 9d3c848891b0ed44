use Rattle.std.proofs.Common.{◌+◌, ◌*◌}
use Rattle.serde_json.specs.Data.{depth, items_depth}
use Rattle.ent_polform.specs.Expressions.{expression_of}
use Rattle.ent_polform.proofs.FormLemmas.{HasRead, items_in}
use Rattle.ent_polform.proofs.expression.+expression.Given as goal

abbrev pub decreases-nested_expression : goal.decreases-nested_expression
decreases-nested_expression g l = 4 * depth (g.J.JsonTree.content l.json.now)

abbrev pub decreases-named : goal.decreases-named
decreases-named g l = 4 * depth (g.J.JsonTree.content l.body.now) + 3

abbrev pub decreases-apply : goal.decreases-apply
decreases-apply g l = 4 * depth (g.J.JsonTree.content l.object.now) + 2

abbrev pub decreases-expressions : goal.decreases-expressions
decreases-expressions g l = 4 * items_depth (items_in g.J.JsonTree.content l.values.now) + 1

abbrev pub invariant-expressions-loop-value : goal.invariant-expressions-loop-value
invariant-expressions-loop-value g l = HasRead g.J.JsonTree.content expression_of l.values l.value-index l.all
