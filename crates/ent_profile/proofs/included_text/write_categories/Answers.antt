use Rattle.std.proofs.Common.{◌≡◌, [], ◌∷◌, ◌∙◌, append-nil, codes, false, filter_map, is_some, sym, true}
use Rattle.json.specs.Token as token
use Rattle.ent_json.specs.Members.{filled_list}
use Rattle.ent_profile.specs.Response.{category_written}
use Rattle.ent_profile.proofs.TextLemmas.{ends}
use Rattle.ent_profile.proofs.TokenLemmas.{categories_kept, empty_tokens, filled_tokens}
use Rattle.ent_profile.proofs.included_text.write_categories.Goals as goal

pub returns-then-not-have_included : goal.returns-then-not-have_included
returns-then-not-have_included c =
    let written = filter_map category_written c.args.categories.now in
    let none : is_some (filled_list written) ≡ false = sym (categories_kept c.args.categories.now) ∙ sym c.have_included.ensures ∙ c.if-not-have_included.true in
    rw (empty_tokens (codes "Category") (filled_list written) (sym none)) (sym (append-nil c.args.out.now))

pub returns : goal.returns
returns c =
    let written = filter_map category_written c.args.categories.now in
    let some : is_some (filled_list written) ≡ true = sym (categories_kept c.args.categories.now) ∙ sym c.have_included.ensures ∙ c.if-not-have_included.false in
    rw (filled_tokens (codes "Category") written (sym some))
    (ends _ _ _ _ (token.key (codes "Category") ∷ []) _ c.in_ok-key.ensures.ok
    (ends _ _ _ _ (token.begin_array ∷ []) _ c.in_ok-begin_array.ensures.ok c.write_each_category.ensures))
