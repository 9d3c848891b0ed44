use Rattle.std.proofs.Common.{◌≡◌, drop, length}
use Rattle.ent_policy.specs.Patterns.{matches}
use Rattle.ent_policy.proofs.pattern.VersionMatch.matches.Given as goal

abbrev pub invariant-loop-part : goal.invariant-loop-part
invariant-loop-part l = matches (drop (length l.yielded) l.parts) (drop (length l.yielded) l.numbers) ≡ matches l.parts l.numbers
