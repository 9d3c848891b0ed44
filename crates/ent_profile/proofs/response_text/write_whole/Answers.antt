use Rattle.std.proofs.Common.{[], ◌∷◌, codes, refl}
use Rattle.json.specs.Lex.{lex, punctuate}
use Rattle.json.specs.Print.{escape_byte, print_from}
use Rattle.json.specs.Text.{content}
use Rattle.json.specs.Token as token
use Rattle.ent_json.specs.Text.{tokens_of}
use Rattle.ent_profile.specs.Response.{result_written}
use Rattle.ent_profile.proofs.TextLemmas.{ends}
use Rattle.ent_profile.proofs.TokenLemmas.{response_tokens}
use Rattle.ent_profile.proofs.response_text.write_whole.Goals as goal

pub raw-requires : goal.raw-requires
unfolding lex punctuate content print_from escape_byte
raw-requires c = refl

pub returns : goal.returns
unfolding lex punctuate content
returns c =
    let result = tokens_of (result_written c.args.answer.now c.args.request.now) in
    rw (response_tokens c.args.answer.now c.args.request.now)
    (ends _ _ _ _ (token.begin_object ∷ token.key (codes "Response") ∷ token.begin_array ∷ []) _ c.in_ok-raw.ensures.ok
    (ends _ _ _ _ result _ c.in_ok-write_result.ensures
    (ends _ _ _ _ (token.end_array ∷ []) _ c.in_ok-end_array.ensures.ok c.end_object.ensures.ok)))
