use Rattle.std.proofs.Common.{◌≡◌, [], ◌∷◌, ◌∙◌, append-nil, codes, false, filter_map, is_some, sym, true}
use Rattle.json.specs.Token as token
use Rattle.ent_json.specs.proofs_only.Text.{items_tokens_of}
use Rattle.ent_profile.specs.Response.{category_written, included}
use Rattle.ent_profile.proofs.TextLemmas.{ends}
use Rattle.ent_profile.proofs.TokenLemmas.{category_kept, category_tokens, nothing_tokens, text_tokens}
use Rattle.ent_profile.proofs.included_text.write_category.Goals as goal

pub returns-then-not-has_included : goal.returns-then-not-has_included
returns-then-not-has_included c =
    let none : is_some (category_written c.args.category.now) ≡ false = sym (category_kept c.args.category.now) ∙ sym c.has_included.ensures ∙ c.if-not-has_included.true in
    rw (nothing_tokens (category_written c.args.category.now) (sym none)) (sym (append-nil c.args.out.now))

pub returns : goal.returns
returns c =
    let some : is_some (category_written c.args.category.now) ≡ true = sym (category_kept c.args.category.now) ∙ sym c.has_included.ensures ∙ c.if-not-has_included.false in
    let attributes = items_tokens_of (filter_map included c.as_slice.result.now) in
    let id = text_tokens (codes "CategoryId") c.as_str.result.now in
    rw (category_tokens c.args.category.now (sym some), ← c.as_slice.ensures, ← c.as_str.ensures)
    (ends _ _ _ _ (token.begin_object ∷ []) _ c.in_ok-begin_object.ensures.ok
    (ends _ _ _ _ (token.key (codes "Attribute") ∷ []) _ c.in_ok-key.ensures.ok
    (ends _ _ _ _ (token.begin_array ∷ []) _ c.in_ok-begin_array.ensures.ok
    (ends _ _ _ _ attributes _ c.in_ok-write_attributes.ensures
    (ends _ _ _ _ id _ c.in_ok-write_text.ensures c.end_object.ensures.ok)))))
