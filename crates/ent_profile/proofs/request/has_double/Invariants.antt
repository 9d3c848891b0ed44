use Rattle.std.proofs.Common.{◌≡◌, length, map}
use Rattle.ent_policy.specs.Limits.{has_double}
use Rattle.ent_profile.proofs.request.has_double.Given as goal

abbrev pub decreases-loop-rest : goal.decreases-loop-rest
decreases-loop-rest l = length l.rest

abbrev pub invariant-loop-rest : goal.invariant-loop-rest
invariant-loop-rest l = has_double (map (λ c. c.id) l.rest) ≡ has_double (map (λ c. c.id) l.categories)
