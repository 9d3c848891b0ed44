-- The tokens of limits.
use Rattle.std.proofs.Common.{ℕ, List, [], ◌∷◌, ◌++◌, codes}
use Rattle.json.specs.Token as token
use Rattle.json.specs.Token.{Token}
use Rattle.ent_json.specs.Text.{tokens_of}
use Rattle.ent_table.specs.declared.limits.Limits.{Limits}
use Rattle.ent_line.specs.Listed.{limit_data}

-- of limits, of which so much is taken
abbrev pub limits_tokens : Limits → (actions cells documents people resources : ℕ) → List Token
limits_tokens limits actions cells documents people resources =
    (token.begin_object ∷ [])
    ++ ((token.key (codes "actions") ∷ tokens_of (limit_data limits.actions actions))
    ++ ((token.key (codes "cells") ∷ tokens_of (limit_data limits.cells cells))
    ++ ((token.key (codes "documents") ∷ tokens_of (limit_data limits.documents documents))
    ++ ((token.key (codes "people") ∷ tokens_of (limit_data limits.people people))
    ++ ((token.key (codes "resources") ∷ tokens_of (limit_data limits.resources resources))
    ++ (token.end_object ∷ []))))))
