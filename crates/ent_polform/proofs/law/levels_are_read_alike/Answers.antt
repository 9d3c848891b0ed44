use Rattle.ent_polform.proofs.NestedLemmas.{child_of-step, expression_of-step}
use Rattle.ent_polform.proofs.law.levels_are_read_alike.Goals as goal

pub returns-clause-expressions : goal.returns-clause-expressions
returns-clause-expressions c = expression_of-step

pub returns-clause-children : goal.returns-clause-children
returns-clause-children c = child_of-step
