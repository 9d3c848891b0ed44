use Rattle.ent_cells.proofs.Grouped.{in_left, in_same}
use Rattle.ent_cells.proofs.steps.leave_other.Goals as goal

pub returns-then-group-kept : goal.returns-then-group-kept
returns-then-group-kept c = in_same c.args.kept c.args.key c.args.groups.now

pub returns : goal.returns
returns c = in_left c.args.group c.args.kept c.args.key c.args.groups.now c.leave.new.self c.if-group-kept.false c.leave.ensures.groups c.leave.ensures.names
