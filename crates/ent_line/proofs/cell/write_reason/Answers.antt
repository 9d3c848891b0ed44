use Rattle.std.proofs.Common.{[], ◌∷◌, codes, refl}
use Rattle.json.specs.Lex.{lex, punctuate}
use Rattle.json.specs.Print.{escape_byte, print_from}
use Rattle.json.specs.Text.{content}
use Rattle.json.specs.Token as token
use Rattle.ent_json.specs.Text.{tokens_of}
use Rattle.ent_telling.specs.Paths.{status_text}
use Rattle.ent_line.specs.Cells.{entry_data, list_data}
use Rattle.ent_line.proofs.TextLemmas.{ends}
use Rattle.ent_line.proofs.cell.write_reason.Goals as goal

pub raw-requires : goal.raw-requires
unfolding lex punctuate content print_from escape_byte
raw-requires c = refl

pub returns : goal.returns
unfolding lex punctuate content
returns c =
    let status = token.key (codes "status") ∷ token.string (status_text c.args.status) ∷ [] in
    ends _ _ _ _ status _ c.in_ok-write_status.ensures
    (ends _ _ _ _ (token.key (codes "why") ∷ []) _ c.in_ok-raw.ensures.ok
    (ends _ _ _ _ (tokens_of (list_data entry_data c.args.why.now)) _ c.in_ok-write_why.ensures c.end_object.ensures.ok))
