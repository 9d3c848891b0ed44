use Rattle.std.proofs.Common.{◌≡◌, ◌++◌, drop}
use Rattle.std.specs.FinMap.{entries}
use Rattle.std.specs.List.{flat_map}
use Rattle.ent_finder.specs.Rows.{source_at}
use Rattle.ent_telling.specs.proofs_only.Walk.{each_tokens, filled_data}
use Rattle.ent_telling.proofs.attributes.write_source.Given as goal

abbrev pub invariant-loop-index : goal.invariant-loop-index
invariant-loop-index g l =
    let rows = entries (source_at (g.A.Attributes.sources l.attributes) l.number).rows in
    l.out ++ each_tokens (flat_map (filled_data l.category l.entity l.number) (drop l.index rows))
    ≡ l.fn.out ++ each_tokens (flat_map (filled_data l.category l.entity l.number) rows)
