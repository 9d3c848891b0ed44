use Rattle.std.proofs.Common.{[], codes, ◌∷◌}
use Rattle.json.specs.Token as token
use Rattle.ent_polform.proofs.TextLemmas.{ends, some_tokens}
use Rattle.ent_polform.specs.Written.{given_written}
use Rattle.ent_polform.proofs.text_given.write_obligations.Goals as goal

pub returns : goal.returns
returns c =
    rw (
      ← c.as_slice-all.ensures,
      some_tokens (given_written (codes "ObligationId") (codes "FulfillOn")) (codes "ObligationExpressions") c.as_slice-all.result.now c.if-is_empty.ensures,
    )
    (ends _ _ _ _ (token.key (codes "ObligationExpressions") ∷ []) _ c.in_ok-key.ensures.ok
    (ends _ _ _ _ (token.begin_array ∷ []) _ c.in_ok-begin_array.ensures.ok c.write_each_obligation.ensures))
