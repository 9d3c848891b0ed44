use Rattle.std.proofs.Common.{◌+◌, ◌*◌, length, map}
use Rattle.ent_policy.proofs.References.{IsParted}
use Rattle.ent_policy.proofs.variables.in_order.Given as goal

abbrev pub invariant-loop-definition : goal.invariant-loop-definition
invariant-loop-definition l = IsParted l.definitions (map (λ d. d.now) l.ordered.items) (map (λ d. d.now) l.pending.items) (map (λ d. d.now) l.stuck.items) l.known

abbrev pub decreases-loop-definition : goal.decreases-loop-definition
decreases-loop-definition l = (length l.pending.items + length l.stuck.items) * (length l.pending.items + length l.stuck.items) + length l.pending.items
