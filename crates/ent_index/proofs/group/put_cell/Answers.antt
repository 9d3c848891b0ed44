use Rattle.slab.specs.Slab.{get}
use Rattle.ent_index.proofs.Members.{joined_numbers, joined_stay}
use Rattle.ent_index.proofs.group.put_cell.Goals as goal

pub returns-clause-numbers : goal.returns-clause-numbers
returns-clause-numbers c = joined_numbers (get c.args.groups.now c.args.group) (get c.put_in.new.groups c.args.group) c.put_in.ensures.here

pub returns-clause-stay : goal.returns-clause-stay
returns-clause-stay c = joined_stay c.args.groups.now c.put_in.new.groups c.args.group c.put_in.ensures.others c.put_in.ensures.here
