use Rattle.ent_polform.specs.Targets.{match_of}
use Rattle.ent_polform.proofs.FormLemmas.{HasRead}
use Rattle.ent_polform.proofs.target.matches.Given as goal

abbrev pub invariant-loop-value : goal.invariant-loop-value
invariant-loop-value g l = HasRead g.J.JsonTree.content match_of l.values l.value-index l.all
