use Rattle.std.proofs.Common.{◌≡◌, ◌+◌, ◌*◌, ◌++◌, map, take}
use Rattle.std.specs.List.{flat_map}
use Rattle.serde_json.specs.View.{view}
use Rattle.script_coverage.specs.Policies.{policies_in}
use Rattle.script_coverage.proofs.policies.+policies.Given as goal

-- a child of a set is looked into one level less deep than the set
abbrev pub decreases-push_policies : goal.decreases-push_policies
decreases-push_policies l = 3 * l.levels

abbrev pub decreases-push_each : goal.decreases-push_each
decreases-push_each l = 3 * l.levels + 1

abbrev pub decreases-push_set : goal.decreases-push_set
decreases-push_set l = 3 * l.levels + 2

-- those of the children so far
abbrev pub invariant-push_each-loop-child : goal.invariant-push_each-loop-child
invariant-push_each-loop-child l = map (λ v. view v.now) l.policies.items
    ≡ map (λ v. view v.now) l.fn.policies.items ++ flat_map (policies_in l.levels) (map view (take l.child-index l.children))
