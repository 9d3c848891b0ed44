use Rattle.std.proofs.Common.{◌≡◌, filter}
use Rattle.ent_table.specs.Fresh.{state_of}
use Rattle.ent_table.specs.proofs_only.Look.{is_another, keys_in}
use Rattle.ent_table.proofs.review_parts.ReviewParts.changed.Given as goal

abbrev pub invariant-loop-seen : goal.invariant-loop-seen
invariant-loop-seen g l =
    l.changed ≡ keys_in (filter (is_another (state_of l.self) l.exchange) l.yielded)
