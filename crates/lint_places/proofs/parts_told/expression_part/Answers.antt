use Rattle.lint_places.specs.Told.{expression_told}
use Rattle.lint_places.proofs.parts_told.expression_part.Goals as goal

pub returns-in-Value : goal.returns-in-Value
unfolding expression_told
returns-in-Value g c = rw c.in-Value.is c.body.ensures

pub returns-in-VariableReference : goal.returns-in-VariableReference
unfolding expression_told
returns-in-VariableReference g c = rw c.in-VariableReference.is c.body-in-VariableReference.ensures
