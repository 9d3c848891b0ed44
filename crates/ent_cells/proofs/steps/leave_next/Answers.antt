use Rattle.ent_cells.proofs.Grouped.{others_stay, stays_itself}
use Rattle.ent_cells.proofs.steps.leave_next.Goals as goal

pub returns-in_default : goal.returns-in_default
returns-in_default c = others_stay c.args.key c.args.groups.now c.args.groups.now (stays_itself c.args.groups.now)

pub returns : goal.returns
returns c = c.leave_other.ensures.others
