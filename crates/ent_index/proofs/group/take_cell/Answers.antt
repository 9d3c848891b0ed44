use Rattle.ent_index.proofs.Members.{left_stay, removed_stay}
use Rattle.ent_index.proofs.group.take_cell.Goals as goal

pub returns-then-is_last-clause-stay : goal.returns-then-is_last-clause-stay
returns-then-is_last-clause-stay c =
    removed_stay c.args.groups.now c.take_one-is_last.new.groups c.try_remove.new.self c.args.group c.args.cell c.take_one-is_last.ensures.others c.take_one-is_last.ensures.here
    c.if-is_last.ensures.last c.try_remove.ensures.updates

pub returns-clause-stay : goal.returns-clause-stay
returns-clause-stay c = left_stay c.args.groups.now c.take_one-is_last.new.groups c.args.group c.args.cell c.take_one-is_last.ensures.others c.take_one-is_last.ensures.here
