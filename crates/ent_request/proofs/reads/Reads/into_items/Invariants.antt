use Rattle.std.proofs.Common.{◌≡◌}
use Rattle.ent_request.proofs.reads.Reads.into_items.Given as goal

abbrev pub invariant-loop-key : goal.invariant-loop-key
invariant-loop-key l = l.keys ≡ l.yielded
