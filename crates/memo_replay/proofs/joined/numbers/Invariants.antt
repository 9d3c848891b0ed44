use Rattle.std.proofs.Common.{◌≡◌, take}
use Rattle.memo_replay.proofs.joined.numbers.Given as goal

abbrev pub invariant-loop-number : goal.invariant-loop-number
invariant-loop-number l = l.numbers.items ≡ take l.number-index l.asked
