use Rattle.std.proofs.Common.{◌≡◌, map}
use Rattle.serde_json.specs.View.{members_view}
use Rattle.ent_json.specs.Objects.{only}
use Rattle.ent_json.proofs.owned.only.Given as goal

abbrev pub invariant-loop-key : goal.invariant-loop-key
invariant-loop-key l = only (map (λ k. k.now) l.keys) (members_view l.key-iterator) ≡ only (map (λ k. k.now) l.keys) (members_view l.members.entries)
