use Rattle.ent_polform.proofs.NestedLemmas.{expression_of-step}
use Rattle.ent_polform.proofs.expression.expression.Goals as goal

pub returns : goal.returns
returns g c = rw (expression_of-step (g.J.JsonTree.content c.args.json.now)) c.nested_expression.ensures
