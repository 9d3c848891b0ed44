use Rattle.ent_polform.specs.Given.{given_by}
use Rattle.lint_places.proofs.ListLemmas.{HasRead}
use Rattle.lint_places.proofs.reading.all_given.Given as goal

abbrev pub invariant-loop-value : goal.invariant-loop-value
invariant-loop-value g l = HasRead g.J.JsonTree.content (λ n. given_by l.id_key l.effect_key) l.values l.value-index l.all
