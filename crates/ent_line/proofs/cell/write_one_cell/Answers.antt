use Rattle.std.proofs.Common.{[], ◌∷◌, codes, refl}
use Rattle.json.specs.Lex.{lex, punctuate}
use Rattle.json.specs.Print.{escape_byte, print_from}
use Rattle.json.specs.Text.{content}
use Rattle.json.specs.Token as token
use Rattle.ent_json.specs.Text.{tokens_of}
use Rattle.ent_table.specs.Names.{triple_of}
use Rattle.ent_line.specs.Cells.{cell_data}
use Rattle.ent_line.proofs.TextLemmas.{ends}
use Rattle.ent_line.proofs.cell.write_one_cell.Goals as goal

pub raw-requires : goal.raw-requires
unfolding lex punctuate content print_from escape_byte
raw-requires c = refl

pub returns : goal.returns
unfolding lex punctuate content
returns c =
    let cell = tokens_of (cell_data (triple_of c.args.person.now c.args.action.now c.args.resource.now, c.args.answer.now)) in
    ends _ _ _ _ (token.begin_object ∷ token.key (codes "cell") ∷ []) _ c.in_ok-raw.ensures.ok
    (ends _ _ _ _ cell _ c.in_ok-write_cell.ensures c.end_object.ensures.ok)
