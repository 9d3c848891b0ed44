use Rattle.std.proofs.Common.{◌≡◌, ◌++◌, drop}
use Rattle.std.specs.FinMap.{entries}
use Rattle.std.specs.List.{flat_map}
use Rattle.ent_finder.specs.Slots.{module_at}
use Rattle.ent_dump.specs.proofs_only.Walk.{line_tokens, slot_edits}
use Rattle.ent_dump.proofs.dump.write_module.Given as goal

abbrev pub invariant-loop-index : goal.invariant-loop-index
invariant-loop-index g l =
    let slots = entries (module_at (g.P.Policies.slots l.policies) l.number) in
    l.out ++ line_tokens (flat_map (λ e. slot_edits l.number e.1) (drop l.index slots))
    ≡ l.fn.out ++ line_tokens (flat_map (λ e. slot_edits l.number e.1) slots)
