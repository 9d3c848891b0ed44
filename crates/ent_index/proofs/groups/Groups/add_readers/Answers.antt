use Rattle.std.proofs.Common.{rules}
use Rattle.ent_index.proofs.WantedOf.{covers_nobody, covers_one_asking}
use Rattle.ent_index.proofs.groups.Groups.add_readers.Goals as goal

pub returns-in-Nobody-clause-covers : goal.returns-in-Nobody-clause-covers
returns-in-Nobody-clause-covers c = covers_nobody c.args.self.now c.args.one.now c.args.cells.now (search rules)

pub returns-in_ok-add_asking-in-Every-clause-covers : goal.returns-in_ok-add_asking-in-Every-clause-covers
returns-in_ok-add_asking-in-Every-clause-covers c = covers_one_asking c.args.self.now c.args.one.now c.add_asking.new.cells c.in_ok-add_asking-in-Every.ensures.asking
