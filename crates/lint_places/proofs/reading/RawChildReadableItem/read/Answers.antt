use Rattle.ent_polform.proofs.NestedLemmas.{child_of-step}
use Rattle.lint_places.proofs.reading.RawChildReadableItem.read.Goals as goal

pub returns : goal.returns
returns g c = rw (child_of-step (g.J.JsonTree.content c.args.json.now)) c.child.ensures
