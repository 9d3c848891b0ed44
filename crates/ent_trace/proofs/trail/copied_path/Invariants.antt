use Rattle.std.proofs.Common.{◌≡◌, ◌++◌, drop}
use Rattle.ent_trace.proofs.trail.copied_path.Given as goal

abbrev pub invariant-loop-key : goal.invariant-loop-key
invariant-loop-key l = l.copies ++ drop l.key-index l.path ≡ l.path
