use Rattle.ent_polform.specs.Given.{assignment_of}
use Rattle.ent_polform.proofs.FormLemmas.{HasRead}
use Rattle.ent_polform.proofs.given.assignments.Given as goal

abbrev pub invariant-loop-value : goal.invariant-loop-value
invariant-loop-value g l = HasRead g.J.JsonTree.content assignment_of l.values l.value-index l.all
