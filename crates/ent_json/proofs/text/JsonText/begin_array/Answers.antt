use Rattle.std.proofs.Common.{refl}
use Rattle.json.specs.Lex.{lex, punctuate}
use Rattle.json.specs.Print.{print_from}
use Rattle.ent_json.proofs.text.JsonText.begin_array.Goals as goal

pub raw-requires : goal.raw-requires
unfolding lex punctuate print_from
raw-requires c = refl

pub returns-clause-ok : goal.returns-clause-ok
unfolding lex punctuate
returns-clause-ok c = c.raw.ensures.ok
