use Rattle.std.proofs.Common.{◌+◌, ◌*◌}
use Rattle.serde_json.specs.Data.{depth, items_depth}
use Rattle.ent_polform.specs.Form.{child_of}
use Rattle.ent_polform.proofs.FormLemmas.{HasRead, items_in}
use Rattle.ent_polform.proofs.form.+child.Given as goal

abbrev pub decreases-child : goal.decreases-child
decreases-child g l = 4 * depth (g.J.JsonTree.content l.json.now)

abbrev pub decreases-document : goal.decreases-document
decreases-document g l = 4 * depth (g.J.JsonTree.content l.body.now) + 3

abbrev pub decreases-set : goal.decreases-set
decreases-set g l = 4 * depth (g.J.JsonTree.content l.object.now) + 2

abbrev pub decreases-children : goal.decreases-children
decreases-children g l = 4 * items_depth (items_in g.J.JsonTree.content l.values.now) + 1

abbrev pub invariant-children-loop-value : goal.invariant-children-loop-value
invariant-children-loop-value g l = HasRead g.J.JsonTree.content child_of l.values l.value-index l.all
