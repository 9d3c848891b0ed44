use Rattle.lint_places.specs.Told.{variable_at}
use Rattle.lint_places.proofs.ListLemmas.{HasRead}
use Rattle.lint_places.proofs.scope.variables_of.Given as goal

abbrev pub invariant-loop-number : goal.invariant-loop-number
invariant-loop-number g l = HasRead g.J.JsonTree.content (variable_at l.standing) l.definitions l.number l.all
