use Rattle.std.proofs.Common.{◌≡◌, map, not, take}
use Rattle.std.specs.List.{list_all}
use Rattle.ent_policy.specs.proofs_only.Order.{has_id}
use Rattle.lint_places.specs.proofs_only.Suspects.{uses}
use Rattle.lint_places.proofs.suspects.using_others.Given as goal

abbrev pub invariant-loop-definition : goal.invariant-loop-definition
invariant-loop-definition l = l.flags.items ≡ map (λ d. not (list_all (has_id l.ids) (uses d.expression))) (take l.definition-index l.definitions)
