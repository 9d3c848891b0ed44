use Rattle.ent_polform.specs.Given.{given_by}
use Rattle.ent_polform.proofs.FormLemmas.{HasRead}
use Rattle.ent_polform.proofs.given.given_expressions.Given as goal

abbrev pub invariant-loop-value : goal.invariant-loop-value
invariant-loop-value g l = HasRead g.J.JsonTree.content (given_by l.id_key l.effect_key) l.values l.value-index l.all
