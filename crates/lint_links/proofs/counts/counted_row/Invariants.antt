use Rattle.std.proofs.Common.{◌≡◌, ◌^◌, ◌-◌, suc, get_or, take}
use Rattle.std.specs.Prelude.{min}
use Rattle.std.specs.List.{sum_by}
use Rattle.lint_links.proofs.counts.counted_row.Given as goal

abbrev pub invariant-loop-number : goal.invariant-loop-number
invariant-loop-number l = l.count ≡ min (sum_by (λ number. suc (get_or l.counts number 0)) (take l.number-index l.row)) (2 ^ 64 - 1)
