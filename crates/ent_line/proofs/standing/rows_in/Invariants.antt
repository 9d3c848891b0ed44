use Rattle.std.proofs.Common.{◌≡◌, ◌+◌, ◌-◌, ◌≤◌, drop, length}
use Rattle.std.specs.Prelude.{filter}
use Rattle.std.specs.FinMap.{entries}
use Rattle.ent_finder.specs.Rows.{is_filled, source_at}
use Rattle.ent_line.proofs.standing.rows_in.Given as goal

abbrev pub invariant-loop-row : goal.invariant-loop-row
invariant-loop-row g l = record {
  counted : l.count + length (filter (λ e. is_filled e.1) (drop l.index (entries (source_at (g.A.Attributes.sources l.attributes) l.number).rows)))
      ≡ length (filter (λ e. is_filled e.1) (entries (source_at (g.A.Attributes.sources l.attributes) l.number).rows));
  fits : l.count ≤ l.index;
}

abbrev pub decreases-loop-row : goal.decreases-loop-row
decreases-loop-row g l = length (entries (source_at (g.A.Attributes.sources l.attributes) l.number).rows) - l.index
