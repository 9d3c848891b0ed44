use Rattle.ent_cells.proofs.Grouped.{others_left, others_renamed, others_then}
use Rattle.ent_cells.proofs.steps.leave.Goals as goal

pub returns : goal.returns
returns c =
    let key = c.args.key in
    let g = c.args.groups.now in
    let next = c.leave_next.new.groups in
    let said = c.leave.new.self in
    others_then key g said c.exit.new.self
    (others_then key g next said c.leave_next.ensures (others_left c.args.cell.now.said.group key next said c.leave.ensures.groups c.leave.ensures.names))
    (others_renamed key said c.exit.new.self c.exit.ensures.names c.exit.ensures.groups)
