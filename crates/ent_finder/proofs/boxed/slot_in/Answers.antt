use Rattle.std.proofs.Common.{arith}
use Rattle.std.specs.FinMap.{len-entries}
use Rattle.ent_finder.proofs.Boxes.{slot_past, slot_within}
use Rattle.ent_finder.proofs.boxed.slot_in.Goals as goal

pub returns-clause-within : goal.returns-clause-within
returns-clause-within g c =
    let count = len-entries ((goal.PolicyFinderModule-dyn g c.args.store.now).slots c.args.store.now.1) in
    let indexed = c.slot_at.ensures.1 in
    slot_within _ _ _ c.slot_at.result c.slot_at.ensures.0 (omega arith)

pub returns-clause-past : goal.returns-clause-past
returns-clause-past g c = slot_past _ _ c.slot_at.result c.slot_at.ensures.0
