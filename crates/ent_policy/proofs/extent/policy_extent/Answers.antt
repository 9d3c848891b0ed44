use Rattle.std.proofs.Common.{◌∙◌}
use Rattle.ent_policy.proofs.Extents.{both, policy_whole}
use Rattle.ent_policy.proofs.extent.policy_extent.Goals as goal

pub returns : goal.returns
returns c =
    let table = rw c.in-Some.is at c.in_ok-table.ensures in
    let definitions = rw c.as_slice.ensures at c.in_ok-definitions.ensures in
    let rules = rw c.as_slice-2.ensures at c.in_ok-rules.ensures in
    let own = both _ _ _ _ _ c.and.ensures c.target_extent-target.ensures definitions in
    (table.0, both _ _ _ _ _ c.and-3.ensures (both _ _ _ _ _ c.and-2.ensures own rules) c.in_ok-given.ensures ∙ policy_whole c.args.policy.now c.in-Some.table table.1)
