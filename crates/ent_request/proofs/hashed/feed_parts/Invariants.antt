use Rattle.std.proofs.Common.{◌≡◌, fold, take}
use Rattle.std.specs.List.{flat_map}
use Rattle.ent_request.specs.proofs_only.Hashed.{part_input}
use Rattle.ent_request.proofs.hashed.feed_parts.Given as goal

abbrev pub invariant-loop-part : goal.invariant-loop-part
invariant-loop-part g l = l.state ≡ fold g.H.Hasher.write l.initial.state (flat_map part_input (take l.part-index l.parts))
