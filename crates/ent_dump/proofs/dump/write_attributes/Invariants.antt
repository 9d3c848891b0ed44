use Rattle.std.proofs.Common.{◌≡◌, ◌++◌, drop}
use Rattle.std.specs.List.{enumerate_from, flat_map}
use Rattle.ent_finder.specs.Rows.{filled_source}
use Rattle.law_rebuild.specs.Rebuilding.{source_edits}
use Rattle.ent_dump.specs.proofs_only.Walk.{line_tokens}
use Rattle.ent_dump.proofs.dump.write_attributes.Given as goal

abbrev pub invariant-loop-number : goal.invariant-loop-number
invariant-loop-number g l =
    let modules = g.A.Attributes.sources l.attributes in
    l.out ++ line_tokens (flat_map (λ m. source_edits (m.0, filled_source m.1)) (enumerate_from l.number (drop l.number modules)))
    ≡ l.fn.out ++ line_tokens (flat_map (λ m. source_edits (m.0, filled_source m.1)) (enumerate_from 0 modules))
