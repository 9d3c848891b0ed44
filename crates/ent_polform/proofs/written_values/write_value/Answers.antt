use Rattle.serde_json.specs.View.{view}
use Rattle.ent_polform.proofs.BackValues.{value_reads_back}
use Rattle.ent_polform.proofs.written_values.write_value.Goals as goal

pub returns-clause-read_back : goal.returns-clause-read_back
returns-clause-read_back c = value_reads_back view c.written.result c.args.value.now c.value_is_real.ensures c.written.ensures.written
