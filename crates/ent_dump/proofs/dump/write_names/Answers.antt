use Rattle.std.proofs.Common.{arith}
use Rattle.ent_dump.proofs.Walks.{name_on, names_all}
use Rattle.ent_dump.proofs.dump.write_names.Goals as goal

pub loop-name-preserved : goal.loop-name-preserved
loop-name-preserved c =
    name_on c.args.list c.args.names.now c.loop-name.name-index c.name-item.result _ _ _ c.loop-name-test.true c.name-item.is
    (rw c.as_str.ensures at c.in_ok-write_name_line.ensures) c.loop-name.invariant

pub returns : goal.returns
returns c = names_all c.args.list c.args.names.now c.loop-name.name-index _ _ (omega arith) c.loop-name.invariant
