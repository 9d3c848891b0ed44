use Rattle.std.proofs.Common.{[], ◌∷◌, ◌++◌, codes, refl}
use Rattle.json.specs.Lex.{lex, punctuate}
use Rattle.json.specs.Print.{escape_byte, print_from}
use Rattle.json.specs.Text.{content}
use Rattle.json.specs.Token as token
use Rattle.ent_line.proofs.TextLemmas.{ends, joined}
use Rattle.ent_line.proofs.cell.write_action.Goals as goal

pub raw-requires : goal.raw-requires
unfolding lex punctuate content print_from escape_byte
raw-requires c = refl

pub raw-requires-2 : goal.raw-requires-2
unfolding lex punctuate content print_from escape_byte
raw-requires-2 c = refl

pub returns : goal.returns
unfolding lex punctuate content
returns c =
    let old = c.args.out.now in
    let start = token.begin_object ∷ token.key (codes "action") ∷ [] in
    let action = token.string c.args.action.now ∷ [] in
    let key = token.key (codes "advice") ∷ [] in
    let front = joined old _ _ start action c.in_ok-raw.ensures.ok c.in_ok-string.ensures.ok in
    ends _ old _ _ _ _ (joined old _ _ (start ++ action) key front c.in_ok-raw-2.ensures.ok) c.write_given_text.ensures
