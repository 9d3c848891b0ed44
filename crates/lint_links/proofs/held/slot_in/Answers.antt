use Rattle.std.proofs.Common.{arith}
use Rattle.std.specs.FinMap.{len-entries}
use Rattle.ent_finder.proofs.Boxes.{slot_past, slot_within}
use Rattle.lint_links.proofs.held.slot_in.Goals as goal

pub returns-clause-within : goal.returns-clause-within
returns-clause-within c =
    let count = len-entries c.args.docs.now in
    let indexed = c.slot_at.ensures.indexed in
    slot_within _ _ _ c.slot_at.result c.slot_at.ensures.slot (omega (arith, count, indexed))

pub returns-clause-past : goal.returns-clause-past
returns-clause-past c = slot_past _ _ c.slot_at.result c.slot_at.ensures.slot
