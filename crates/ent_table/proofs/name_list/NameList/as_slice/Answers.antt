use Rattle.ent_table.proofs.Texts.{texts_distinct}
use Rattle.ent_table.proofs.name_list.NameList.as_slice.Goals as goal

pub returns-clause-distinct : goal.returns-clause-distinct
returns-clause-distinct c = rw (← c.self.view_is) (texts_distinct c.self.inside.names.keys c.as_slice.ensures.unique)
