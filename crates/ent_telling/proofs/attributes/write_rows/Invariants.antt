use Rattle.std.proofs.Common.{◌≡◌, ◌++◌, drop, map}
use Rattle.std.specs.List.{enumerate_from, flat_map}
use Rattle.ent_finder.specs.Rows.{filled_source}
use Rattle.ent_telling.specs.Attributes.{module_rows, row_data}
use Rattle.ent_telling.specs.proofs_only.Walk.{each_tokens}
use Rattle.ent_telling.proofs.attributes.write_rows.Given as goal

abbrev pub invariant-loop-number : goal.invariant-loop-number
invariant-loop-number g l =
    let modules = g.A.Attributes.sources l.attributes in
    l.out ++ each_tokens (flat_map (λ m. map row_data (module_rows l.category l.entity (m.0, filled_source m.1))) (enumerate_from l.number (drop l.number modules)))
    ≡ l.fn.out ++ each_tokens (flat_map (λ m. map row_data (module_rows l.category l.entity (m.0, filled_source m.1))) (enumerate_from 0 modules))
