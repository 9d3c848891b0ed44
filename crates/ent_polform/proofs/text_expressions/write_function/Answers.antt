use Rattle.std.proofs.Common.{[], codes, ◌∷◌}
use Rattle.json.specs.Token as token
use Rattle.ent_polform.proofs.TextLemmas.{ends}
use Rattle.ent_polform.proofs.text_expressions.write_function.Goals as goal

pub returns : goal.returns
returns c =
    rw (← c.in_ok-id.ensures, ← c.as_str.ensures)
    (ends _ _ _ _ (token.begin_object ∷ []) _ c.in_ok-begin_object.ensures.ok
    (ends _ _ _ _ (token.key (codes "Function") ∷ []) _ c.in_ok-key.ensures.ok
    (ends _ _ _ _ (token.begin_object ∷ []) _ c.in_ok-begin_object-2.ensures.ok
    (ends _ _ _ _ (token.key (codes "FunctionId") ∷ token.string c.as_str.result.now ∷ []) _ c.in_ok-write_text.ensures
    (ends _ _ _ _ (token.end_object ∷ []) _ c.in_ok-end_object.ensures.ok c.end_object-2.ensures.ok)))))
