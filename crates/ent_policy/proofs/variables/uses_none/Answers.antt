use Rattle.std.proofs.Common.{◌∙◌, [], refl}
use Rattle.ent_policy.specs.proofs_only.Order.{has_id}
use Rattle.ent_policy.specs.Variables.{given_variables, is_resolved}
use Rattle.ent_policy.proofs.References.{all_agree}
use Rattle.ent_policy.proofs.variables.uses_none.Goals as goal

pub returns : goal.returns
returns c = c.knows.ensures ∙ all_agree (has_id c.new-known.result) (is_resolved []) (given_variables c.args.given.now) (λ q among. rw c.new-known.ensures.empty refl)
