use Rattle.std.proofs.Common.{[], codes, ◌∷◌}
use Rattle.json.specs.Token as token
use Rattle.ent_polform.proofs.TextLemmas.{ends, some_tokens}
use Rattle.ent_polform.specs.Written.{assignment_written}
use Rattle.ent_polform.proofs.text_given.write_assignments.Goals as goal

pub returns : goal.returns
returns c =
    rw (some_tokens assignment_written (codes "AttributeAssignmentExpression") c.args.all.now c.if-is_empty.ensures)
    (ends _ _ _ _ (token.key (codes "AttributeAssignmentExpression") ∷ []) _ c.in_ok-key.ensures.ok
    (ends _ _ _ _ (token.begin_array ∷ []) _ c.in_ok-begin_array.ensures.ok c.write_each_assignment.ensures))
