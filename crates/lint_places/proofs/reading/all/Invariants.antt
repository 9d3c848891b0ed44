use Rattle.lint_places.proofs.ListLemmas.{HasRead}
use Rattle.lint_places.proofs.reading.all.Given as goal

abbrev pub invariant-loop-value : goal.invariant-loop-value
invariant-loop-value g l = HasRead g.J.JsonTree.content (λ n. g.R.ReadableItem.reads) l.values l.value-index l.all
