use Rattle.std.proofs.Common.{◌≡◌, ◌++◌, drop}
use Rattle.std.specs.FinMap.{entries}
use Rattle.std.specs.List.{flat_map}
use Rattle.std.specs.Option.{option_copied}
use Rattle.ent_finder.specs.Slots.{module_at}
use Rattle.lint_reach.specs.Reached.{has_place}
use Rattle.ent_telling.specs.proofs_only.Walk.{each_tokens, slot_data}
use Rattle.ent_telling.proofs.documents.write_slots.Given as goal

abbrev pub invariant-loop-index : goal.invariant-loop-index
invariant-loop-index g l =
    let slots = entries (module_at (g.P.Policies.slots l.policies) l.number) in
    l.out ++ each_tokens (flat_map (slot_data (λ p. has_place p l.reached) (option_copied l.id) l.number) (drop l.index slots))
    ≡ l.fn.out ++ each_tokens (flat_map (slot_data (λ p. has_place p l.reached) (option_copied l.id) l.number) slots)
