use Rattle.ent_table.proofs.Texts.{text_at}
use Rattle.ent_table.proofs.name_list.index_of.Goals as goal

pub returns-clause-at : goal.returns-clause-at
returns-clause-at c = text_at c.args.name.now c.args.names.now.keys c.get_index_of.result c.get_index_of.ensures.index c.get_index_of.ensures.found
