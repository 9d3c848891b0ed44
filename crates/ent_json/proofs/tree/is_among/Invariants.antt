use Rattle.std.proofs.Common.{◌≡◌, drop, map}
use Rattle.ent_json.specs.Objects.{among}
use Rattle.ent_json.proofs.tree.is_among.Given as goal

abbrev pub invariant-loop-k : goal.invariant-loop-k
invariant-loop-k l = among l.key (map (λ k. k.now) (drop l.k-index l.keys)) ≡ among l.key (map (λ k. k.now) l.keys)
