use Rattle.std.proofs.Common.{[], codes, ◌≡◌, ◌∙◌, ◌∷◌}
use Rattle.json.specs.Token as token
use Rattle.ent_values.specs.Writing.{date_time_text, text_of}
use Rattle.ent_polform.proofs.TextLemmas.{ends}
use Rattle.ent_dump.proofs.commands.write_moment.Goals as goal

pub returns : goal.returns
unfolding text_of
returns c =
    let written : c.as_str.result.now ≡ date_time_text c.args.moment = c.as_str.ensures ∙ c.in_ok-text.ensures.value in
    rw (← written)
    (ends _ _ _ _ (token.begin_object ∷ []) _ c.in_ok-begin_object.ensures.ok
    (ends _ _ _ _ (token.key (codes "do") ∷ token.string (codes "moment.set") ∷ []) _ c.in_ok-write_text.ensures
    (ends _ _ _ _ (token.key (codes "moment") ∷ token.string c.as_str.result.now ∷ []) _ c.in_ok-write_text-2.ensures c.end_object.ensures.ok)))
