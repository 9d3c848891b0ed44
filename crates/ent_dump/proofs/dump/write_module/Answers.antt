use Rattle.std.proofs.Common.{◌++◌, ◌∙◌, ap, arith}
use Rattle.std.specs.FinMap.{entries, len-entries}
use Rattle.ent_finder.specs.Entry.{entry_of}
use Rattle.ent_finder.specs.Slots.{module_at}
use Rattle.ent_dump.specs.proofs_only.Walk.{line_tokens, slot_edits}
use Rattle.ent_dump.proofs.Walks.{found, module_edited, not_found, walked, walked_all, walked_on}
use Rattle.ent_dump.proofs.dump.write_module.Goals as goal

pub loop-index-preserved : goal.loop-index-preserved
loop-index-preserved g c =
    let slots = module_at (g.P.Policies.slots c.args.policies.now) c.args.number in
    walked_on (λ e. slot_edits c.args.number e.1) (entries slots) c.loop-index.index (entry_of c.in-Some.slot.now) _ _ _
    (found entry_of _ c.in-Some.slot _ c.in-Some.is c.slot_at-in-loop-index.ensures.slot) c.in_ok-write_slot_line.ensures c.loop-index.invariant

pub returns-in_default : goal.returns-in_default
returns-in_default g c =
    let slots = module_at (g.P.Policies.slots c.args.policies.now) c.args.number in
    walked (λ e. slot_edits c.args.number e.1) (entries slots) c.loop-index.index _ _
    (not_found entry_of _ _ c.in_default.is c.slot_at-in-loop-index.ensures.slot) c.loop-index.invariant
    ∙ ap (λ es. c.args.out.now ++ line_tokens es) (module_edited c.args.number slots)

pub returns : goal.returns
returns g c =
    let slots = module_at (g.P.Policies.slots c.args.policies.now) c.args.number in
    let counted = len-entries slots in
    walked_all (λ e. slot_edits c.args.number e.1) (entries slots) c.loop-index.index _ _
    (omega (arith, counted, c.slot_at.ensures.indexed)) c.loop-index.invariant
    ∙ ap (λ es. c.args.out.now ++ line_tokens es) (module_edited c.args.number slots)
