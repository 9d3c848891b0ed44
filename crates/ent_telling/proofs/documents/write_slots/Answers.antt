use Rattle.std.proofs.Common.{◌++◌, ◌∙◌, ap, arith}
use Rattle.std.specs.FinMap.{entries, len-entries}
use Rattle.std.specs.Option.{option_copied}
use Rattle.ent_finder.specs.Entry.{entry_of}
use Rattle.ent_finder.specs.Slots.{module_at}
use Rattle.lint_reach.specs.Reached.{has_place}
use Rattle.ent_telling.specs.proofs_only.Walk.{each_tokens, slot_data}
use Rattle.ent_telling.proofs.Told.{module_told}
use Rattle.ent_telling.proofs.Walks.{found, not_found, walked, walked_all, walked_on}
use Rattle.ent_telling.proofs.documents.write_slots.Goals as goal

pub loop-index-preserved : goal.loop-index-preserved
loop-index-preserved g c =
    let slots = module_at (g.P.Policies.slots c.args.policies.now) c.args.number in
    walked_on (slot_data (λ p. has_place p c.args.reached.now) (option_copied c.args.id) c.args.number) (entries slots) c.loop-index.index (entry_of c.in-Some.slot.now) _ _ _
    (found entry_of _ c.in-Some.slot _ c.in-Some.is c.slot_at-in-loop-index.ensures.slot) c.in_ok-write_slot.ensures c.loop-index.invariant

pub returns-in_default : goal.returns-in_default
returns-in_default g c =
    let slots = module_at (g.P.Policies.slots c.args.policies.now) c.args.number in
    walked (slot_data (λ p. has_place p c.args.reached.now) (option_copied c.args.id) c.args.number) (entries slots) c.loop-index.index _ _
    (not_found entry_of _ _ c.in_default.is c.slot_at-in-loop-index.ensures.slot) c.loop-index.invariant
    ∙ ap (λ ds. c.args.out.now ++ each_tokens ds) (module_told (λ p. has_place p c.args.reached.now) (option_copied c.args.id) c.args.number slots)

pub returns : goal.returns
returns g c =
    let slots = module_at (g.P.Policies.slots c.args.policies.now) c.args.number in
    let counted = len-entries slots in
    walked_all (slot_data (λ p. has_place p c.args.reached.now) (option_copied c.args.id) c.args.number) (entries slots) c.loop-index.index _ _
    (omega (arith, counted, c.slot_at.ensures.indexed)) c.loop-index.invariant
    ∙ ap (λ ds. c.args.out.now ++ each_tokens ds) (module_told (λ p. has_place p c.args.reached.now) (option_copied c.args.id) c.args.number slots)
