use Rattle.std.proofs.Common.{◌≡◌, ◌++◌, drop}
use Rattle.std.specs.FinMap.{entries}
use Rattle.std.specs.List.{flat_map}
use Rattle.ent_finder.specs.Rows.{source_at}
use Rattle.ent_dump.specs.proofs_only.Walk.{filled_edits, line_tokens}
use Rattle.ent_dump.proofs.dump.write_source.Given as goal

abbrev pub invariant-loop-index : goal.invariant-loop-index
invariant-loop-index g l =
    let rows = entries (source_at (g.A.Attributes.sources l.attributes) l.number).rows in
    l.out ++ line_tokens (flat_map (λ e. filled_edits l.number e.0 e.1) (drop l.index rows))
    ≡ l.fn.out ++ line_tokens (flat_map (λ e. filled_edits l.number e.0 e.1) rows)
