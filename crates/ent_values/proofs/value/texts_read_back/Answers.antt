use Rattle.ent_values.proofs.ReadBack.{read_back}
use Rattle.ent_values.proofs.value.texts_read_back.Goals as goal

pub returns : goal.returns
returns c = read_back
