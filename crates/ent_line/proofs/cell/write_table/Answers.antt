use Rattle.std.proofs.Common.{[], ◌∷◌, codes, refl}
use Rattle.json.specs.Lex.{lex, punctuate}
use Rattle.json.specs.Print.{escape_byte, print_from}
use Rattle.json.specs.Text.{content}
use Rattle.json.specs.Token as token
use Rattle.ent_json.specs.Text.{tokens_of}
use Rattle.ent_table.specs.Left.{cells_left}
use Rattle.ent_line.specs.Cells.{cell_data, list_data}
use Rattle.ent_line.proofs.TextLemmas.{ends}
use Rattle.ent_line.proofs.cell.write_table.Goals as goal

pub raw-requires : goal.raw-requires
unfolding lex punctuate content print_from escape_byte
raw-requires g c = refl

pub returns : goal.returns
unfolding lex punctuate content
returns g c =
    let cells = tokens_of (list_data cell_data (cells_left c.args.cells)) in
    ends _ _ _ _ (token.begin_object ∷ token.key (codes "table") ∷ []) _ c.in_ok-raw.ensures.ok
    (ends _ _ _ _ cells _ c.in_ok-write_list.ensures c.end_object.ensures.ok)
