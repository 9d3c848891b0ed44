use Rattle.ent_polform.specs.Form.{definition_of}
use Rattle.ent_polform.proofs.FormLemmas.{HasRead}
use Rattle.ent_polform.proofs.form.definitions.Given as goal

abbrev pub invariant-loop-value : goal.invariant-loop-value
invariant-loop-value g l = HasRead g.J.JsonTree.content definition_of l.values l.value-index l.all
