use Rattle.std.proofs.Common.{◌≡◌, take}
use Rattle.std.specs.Prelude.{fold}
use Rattle.std.specs.List.{flat_map}
use Rattle.ent_request.specs.proofs_only.Fed.{key_writes}
use Rattle.ent_request.proofs.cause.hash_path.Given as goal

abbrev pub invariant-loop-key : goal.invariant-loop-key
invariant-loop-key g l = l.state ≡ fold (g.H.Hasher.write) l.initial.state (flat_map key_writes (take l.key-index l.path))
