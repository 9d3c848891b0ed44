use Rattle.std.proofs.Common.{◌≡◌, drop}
use Rattle.std.specs.List.{flat_map, list_all}
use Rattle.ent_policy.specs.proofs_only.Order.{has_id}
use Rattle.ent_policy.proofs.variables.each_knows.Given as goal

abbrev pub invariant-loop-part : goal.invariant-loop-part
invariant-loop-part g l =
    list_all (has_id l.known) (flat_map g.U.Using.uses (drop l.part-index l.parts))
    ≡ list_all (has_id l.known) (flat_map g.U.Using.uses l.parts)
