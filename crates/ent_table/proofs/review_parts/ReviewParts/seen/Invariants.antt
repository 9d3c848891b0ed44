use Rattle.std.proofs.Common.{◌≡◌}
use Rattle.std.specs.List.{AllByRecursion}
use Rattle.ent_table.specs.Fresh.{state_of}
use Rattle.ent_table.specs.proofs_only.Look.{IsSeen, keys_in}
use Rattle.ent_table.proofs.review_parts.ReviewParts.seen.Given as goal

abbrev pub invariant-loop-key : goal.invariant-loop-key
invariant-loop-key g l = (keys_in l.seen.items ≡ l.yielded) × AllByRecursion (IsSeen (state_of l.self) l.exchange) l.seen.items
