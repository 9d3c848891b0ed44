use Rattle.std.proofs.Common.{[], ◌∷◌, codes, refl}
use Rattle.json.specs.Lex.{lex, punctuate}
use Rattle.json.specs.Print.{escape_byte, print_from}
use Rattle.json.specs.Text.{content}
use Rattle.json.specs.Token as token
use Rattle.ent_json.specs.Text.{tokens_of}
use Rattle.ent_telling.specs.Paths.{path_data, rule_data}
use Rattle.ent_line.proofs.TextLemmas.{ends}
use Rattle.ent_line.proofs.cell.write_entry.Goals as goal

pub raw-requires : goal.raw-requires
unfolding lex punctuate content print_from escape_byte
raw-requires c = refl

pub raw-requires-2 : goal.raw-requires-2
unfolding lex punctuate content print_from escape_byte
raw-requires-2 c = refl

pub returns : goal.returns
unfolding lex punctuate content
returns c =
    rw (← c.get.ensures, ← c.as_slice.ensures)
    (ends _ _ _ _ (token.begin_object ∷ token.key (codes "path") ∷ []) _ c.in_ok-raw.ensures.ok
    (ends _ _ _ _ (tokens_of (path_data c.as_slice.result.now)) _ c.in_ok-write_path.ensures
    (ends _ _ _ _ (token.key (codes "rule") ∷ []) _ c.in_ok-raw-2.ensures.ok
    (ends _ _ _ _ (tokens_of (rule_data c.args.entry.now.rule)) _ c.in_ok-write_rule.ensures c.end_object.ensures.ok))))
