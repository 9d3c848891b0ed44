use Rattle.std.proofs.Common.{◌≡◌, take}
use Rattle.ent_table.specs.proofs_only.Table.{unanswered}
use Rattle.ent_table.proofs.table.unanswered.Given as goal

abbrev pub invariant-loop-request : goal.invariant-loop-request
invariant-loop-request l = l.olds.items ≡ unanswered (take l.request-index l.requests)
