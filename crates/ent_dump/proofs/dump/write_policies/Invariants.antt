use Rattle.std.proofs.Common.{◌≡◌, ◌++◌, drop}
use Rattle.std.specs.List.{enumerate_from, flat_map}
use Rattle.ent_finder.specs.Slots.{held}
use Rattle.law_rebuild.specs.Rebuilding.{module_edits}
use Rattle.ent_dump.specs.proofs_only.Walk.{line_tokens}
use Rattle.ent_dump.proofs.dump.write_policies.Given as goal

abbrev pub invariant-loop-number : goal.invariant-loop-number
invariant-loop-number g l =
    let modules = g.P.Policies.slots l.policies in
    l.out ++ line_tokens (flat_map (λ m. module_edits (m.0, held m.1)) (enumerate_from l.number (drop l.number modules)))
    ≡ l.fn.out ++ line_tokens (flat_map (λ m. module_edits (m.0, held m.1)) (enumerate_from 0 modules))
