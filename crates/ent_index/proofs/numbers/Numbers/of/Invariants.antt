use Rattle.std.proofs.Common.{◌≡◌, ℕ, take}
use Rattle.ent_index.specs.Groups.{is_among, is_member}
use Rattle.ent_index.proofs.numbers.Numbers.of.Given as goal

abbrev pub invariant-loop-number : goal.invariant-loop-number
invariant-loop-number l = (m : ℕ) → is_member l.roll m ≡ is_among (take l.number-index l.numbers) m
