use Rattle.std.proofs.Common.{map, take}
use Rattle.std.specs.List.{flat_map}
use Rattle.ent_finder.specs.Slots.{held}
use Rattle.lint_reach.specs.Reached.{references_at}
use Rattle.lint_reach.specs.proofs_only.Search.{Leads}
use Rattle.lint_reach.proofs.walk.look_at_all.Given as goal

abbrev pub invariant-loop-place : goal.invariant-loop-place
invariant-loop-place g l =
    let modules = map held (g.P.Policies.slots l.policies) in
    Leads modules (flat_map (references_at modules) (take l.place-index l.places)) l.fn.search l.search
