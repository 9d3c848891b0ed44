use Rattle.std.proofs.Common.{[], ◌∷◌, ◌++◌, codes, refl}
use Rattle.json.specs.Lex.{lex, punctuate}
use Rattle.json.specs.Print.{escape_byte, print_from}
use Rattle.json.specs.Text.{content}
use Rattle.json.specs.Token as token
use Rattle.ent_line.proofs.TextLemmas.{ends, joined}
use Rattle.ent_line.proofs.cell.write_names.Goals as goal

pub raw-requires : goal.raw-requires
unfolding lex punctuate content print_from escape_byte
raw-requires c = refl

pub raw-requires-2 : goal.raw-requires-2
unfolding lex punctuate content print_from escape_byte
raw-requires-2 c = refl

pub returns : goal.returns
unfolding lex punctuate content
returns c =
    let old = c.args.out.now in
    let first = token.key (codes "person") ∷ [] in
    let person = token.string c.args.person.now ∷ [] in
    let second = token.key (codes "resource") ∷ [] in
    let front = joined old _ _ first person c.in_ok-raw.ensures.ok c.in_ok-string.ensures.ok in
    ends _ old _ _ _ _ (joined old _ _ (first ++ person) second front c.in_ok-raw-2.ensures.ok) c.string-2.ensures.ok
