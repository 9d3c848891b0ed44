use Rattle.std.proofs.Common.{◌∙◌}
use Rattle.ent_table.proofs.Texts.{has_text}
use Rattle.ent_table.proofs.name_list.NameList.has.Goals as goal

pub returns : goal.returns
returns c = rw (← c.self.view_is) (c.contains.ensures ∙ has_text c.args.name.now c.self.inside.names.keys)
