use Rattle.ent_combine.proofs.Choosing.{bad_stays, only_bad_stays}
use Rattle.ent_combine.proofs.chooser.bad_choice_is_final.Goals as goal

pub returns-clause-stays : goal.returns-clause-stays
returns-clause-stays c = bad_stays

pub returns-clause-only_bad : goal.returns-clause-only_bad
returns-clause-only_bad c = only_bad_stays
