use Rattle.std.proofs.Common.{sym, ◌∙◌}
use Rattle.ent_line.proofs.StandingLemmas.{none_filled, one_filled}
use Rattle.ent_line.proofs.standing.filled.Goals as goal

pub returns-then-is_empty : goal.returns-then-is_empty
returns-then-is_empty c = none_filled c.args.row.now.key c.args.row.now.values _ c.as_slice.ensures (sym c.is_empty.ensures ∙ c.if-is_empty.true)

pub returns-else-is_empty : goal.returns-else-is_empty
returns-else-is_empty c = one_filled c.args.row.now.key c.args.row.now.values _ c.as_slice.ensures (sym c.is_empty.ensures ∙ c.if-is_empty.false)
