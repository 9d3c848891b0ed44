use Rattle.std.proofs.Common.{[], ◌∷◌, codes, filter_map, map, refl}
use Rattle.json.specs.Lex.{lex, punctuate}
use Rattle.json.specs.Print.{escape_byte, print_from}
use Rattle.json.specs.Text.{content}
use Rattle.json.specs.Token as token
use Rattle.ent_json.specs.Text.{tokens_of}
use Rattle.ent_json.specs.Members.{filled_list}
use Rattle.ent_profile.specs.Response.{category_written, given_written, status_written}
use Rattle.ent_json.specs.proofs_only.Keyed.{optional_tokens}
use Rattle.ent_profile.proofs.TextLemmas.{ends}
use Rattle.ent_profile.proofs.TokenLemmas.{result_tokens}
use Rattle.ent_profile.proofs.response_text.write_result.Goals as goal

pub raw-requires : goal.raw-requires
unfolding lex punctuate content print_from escape_byte
raw-requires c = refl

pub raw-requires-2 : goal.raw-requires-2
unfolding lex punctuate content print_from escape_byte
raw-requires-2 c = refl

pub returns : goal.returns
unfolding lex punctuate content
returns c =
    let a = c.args.answer.now in
    let advice = optional_tokens (codes "AssociatedAdvice") (filled_list (map given_written c.as_slice.result.now)) in
    let categories = optional_tokens (codes "Category") (filled_list (filter_map category_written c.as_slice-2.result.now)) in
    let obligations = optional_tokens (codes "Obligations") (filled_list (map given_written c.as_slice-3.result.now)) in
    let status = tokens_of (status_written a.status) in
    rw (result_tokens a c.args.request.now, ← c.as_slice.ensures, ← c.as_slice-2.ensures, ← c.as_slice-3.ensures, ← c.decision_word.ensures)
    (ends _ _ _ _ (token.begin_object ∷ []) _ c.in_ok-begin_object.ensures.ok
    (ends _ _ _ _ advice _ c.in_ok-write_some_given.ensures
    (ends _ _ _ _ categories _ c.in_ok-write_categories.ensures
    (ends _ _ _ _ (token.key (codes "Decision") ∷ []) _ c.in_ok-raw.ensures.ok
    (ends _ _ _ _ (token.string c.decision_word.result.now ∷ []) _ c.in_ok-string.ensures.ok
    (ends _ _ _ _ obligations _ c.in_ok-write_some_given-2.ensures
    (ends _ _ _ _ (token.key (codes "Status") ∷ []) _ c.in_ok-raw-2.ensures.ok
    (ends _ _ _ _ status _ c.in_ok-write_status.ensures c.end_object.ensures.ok))))))))
