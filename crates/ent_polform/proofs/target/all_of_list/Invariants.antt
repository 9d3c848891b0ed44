use Rattle.ent_polform.specs.Targets.{one_all_of}
use Rattle.ent_polform.proofs.FormLemmas.{HasRead}
use Rattle.ent_polform.proofs.target.all_of_list.Given as goal

abbrev pub invariant-loop-value : goal.invariant-loop-value
invariant-loop-value g l = HasRead g.J.JsonTree.content one_all_of l.values l.value-index l.all
