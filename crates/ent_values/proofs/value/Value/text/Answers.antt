use Rattle.ent_values.proofs.ReadBack.{reads_as}
use Rattle.ent_values.proofs.value.Value.text.Goals as goal

pub returns-clause-reads_back : goal.returns-clause-reads_back
returns-clause-reads_back c = reads_as c.args.self.now c.written.result c.value_is_real.ensures c.written.ensures
