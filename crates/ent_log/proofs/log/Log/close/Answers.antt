use Rattle.std.proofs.Common.{◌+◌, arith}
use Rattle.ent_log.proofs.Serials.{entries_since-past, in_order-raise}
use Rattle.ent_log.proofs.log.Log.close.Goals as goal

pub invariant_of-self-clause-in_order : goal.invariant_of-self-clause-in_order
invariant_of-self-clause-in_order g c =
    let s = c.args.self.now in
    in_order-raise s.from s.entries.items s.serial (s.serial + 1) s.in_order (omega arith)

pub returns-clause-closed : goal.returns-clause-closed
returns-clause-closed g c =
    let s = c.args.self.now in
    entries_since-past s.from s.entries.items s.serial (s.serial + 1) s.in_order (omega arith)
