use Rattle.std.proofs.Common.{◌≡◌, map, min, take}
use Rattle.ent_policy.specs.Depths.{depth, greatest}
use Rattle.ent_policy.proofs.extent.+depth.Given as goal

abbrev pub invariant-greatest_depth-loop-child : goal.invariant-greatest_depth-loop-child
invariant-greatest_depth-loop-child l = l.most ≡ min 17 (greatest (map depth (take l.child-index l.children)))
