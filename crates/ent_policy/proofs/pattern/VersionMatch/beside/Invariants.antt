use Rattle.std.proofs.Common.{◌≡◌, drop, length}
use Rattle.ent_policy.specs.Patterns.{beside}
use Rattle.ent_policy.proofs.pattern.VersionMatch.beside.Given as goal

abbrev pub invariant-loop-part : goal.invariant-loop-part
invariant-loop-part l = beside (drop (length l.yielded) l.numbers) (drop (length l.yielded) l.parts) ≡ beside l.numbers l.parts
