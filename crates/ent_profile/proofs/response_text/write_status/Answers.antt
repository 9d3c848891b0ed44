use Rattle.std.proofs.Common.{[], ◌∷◌, codes, refl}
use Rattle.json.specs.Lex.{lex, punctuate}
use Rattle.json.specs.Print.{escape_byte, print_from}
use Rattle.json.specs.Text.{content}
use Rattle.json.specs.Token as token
use Rattle.ent_profile.proofs.TextLemmas.{ends}
use Rattle.ent_profile.proofs.response_text.write_status.Goals as goal

pub raw-requires : goal.raw-requires
unfolding lex punctuate content print_from escape_byte
raw-requires c = refl

pub returns : goal.returns
unfolding lex punctuate content
returns c =
    let start = token.begin_object ∷ token.key (codes "StatusCode") ∷ token.begin_object ∷ token.key (codes "Value") ∷ [] in
    rw (← c.status_uri.ensures)
    (ends _ _ _ _ start _ c.in_ok-raw.ensures.ok
    (ends _ _ _ _ (token.string c.status_uri.result.now ∷ []) _ c.in_ok-string.ensures.ok
    (ends _ _ _ _ (token.end_object ∷ []) _ c.in_ok-end_object.ensures.ok c.end_object-2.ensures.ok)))
