use Rattle.std.proofs.Common.{[], ◌∷◌, codes, refl}
use Rattle.json.specs.Lex.{lex, punctuate}
use Rattle.json.specs.Print.{escape_byte, print_from}
use Rattle.json.specs.Text.{content}
use Rattle.json.specs.Token as token
use Rattle.ent_command.specs.Wanted.{decision_text}
use Rattle.ent_line.proofs.TextLemmas.{ends, joined}
use Rattle.ent_line.proofs.cell.write_decided.Goals as goal

pub raw-requires : goal.raw-requires
unfolding lex punctuate content print_from escape_byte
raw-requires c = refl

pub returns : goal.returns
unfolding lex punctuate content
returns c =
    let decision = token.key (codes "decision") ∷ token.string (decision_text c.args.decision) ∷ [] in
    let key = token.key (codes "obligations") ∷ [] in
    ends _ _ _ _ _ _ (joined _ _ _ decision key c.in_ok-write_decision.ensures c.in_ok-raw.ensures.ok) c.write_given_text.ensures
