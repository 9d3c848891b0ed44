use Rattle.std.proofs.Common.{◌≡◌, map, drop}
use Rattle.json.specs.Value.{members_view}
use Rattle.ent_json.proofs.MemberLemmas.{keys_among}
use Rattle.ent_json.proofs.borrowed.only.Given as goal

abbrev pub invariant-loop-member : goal.invariant-loop-member
invariant-loop-member l = keys_among (map (λ k. k.now) l.keys) (members_view (drop l.member-index l.members)) ≡ keys_among (map (λ k. k.now) l.keys) (members_view l.members)
