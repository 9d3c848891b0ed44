use Rattle.std.proofs.Common.{◌≡◌, ◌+◌, drop, map}
use Rattle.ent_finder.specs.Rows.{filled_source}
use Rattle.ent_line.specs.proofs_only.Standing.{row_count}
use Rattle.ent_line.proofs.standing.row_count.Given as goal

abbrev pub invariant-loop-number : goal.invariant-loop-number
invariant-loop-number g l =
    l.count + row_count (map filled_source (drop l.number (g.A.Attributes.sources l.attributes)))
    ≡ row_count (map filled_source (g.A.Attributes.sources l.attributes))
