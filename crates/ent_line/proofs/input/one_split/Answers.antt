use Rattle.ent_line.proofs.LineLemmas.{split_once}
use Rattle.ent_line.proofs.input.one_split.Goals as goal

pub returns : goal.returns
returns c = split_once
