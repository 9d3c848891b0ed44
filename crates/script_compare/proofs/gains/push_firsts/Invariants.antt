use Rattle.std.proofs.Common.{◌≡◌, drop, map}
use Rattle.script_compare.specs.Gains.{firsts}
use Rattle.script_compare.specs.proofs_only.Rows.{row_view}
use Rattle.script_compare.proofs.gains.push_firsts.Given as goal

-- the rules so far, and the others are left
abbrev pub invariant-loop-row : goal.invariant-loop-row
invariant-loop-row l =
    firsts (map (λ v. v.items) l.seen.items) (map row_view (drop l.row-index l.rows)) ≡ firsts (map (λ v. v.items) l.fn.seen.items) (map row_view l.rows)
