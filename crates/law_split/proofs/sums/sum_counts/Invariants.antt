use Rattle.std.proofs.Common.{◌≡◌, take}
use Rattle.law_split.specs.Merged.{summed}
use Rattle.law_split.proofs.sums.sum_counts.Given as goal

abbrev pub invariant-loop-part : goal.invariant-loop-part
invariant-loop-part l = l.counts ≡ summed (take l.part-index l.parts)
