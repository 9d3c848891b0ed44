use Rattle.std.proofs.Common.{ap, sym, ◌∙◌}
use Rattle.ent_finder.proofs.Recent.{last_accepted, last_accepted_back, most_recent-slots}
use Rattle.ent_finder.proofs.list.find_reference.Goals as goal

pub loop-slot-init : goal.loop-slot-init
loop-slot-init c =
    most_recent-slots c.args.reference.now c.args.slots.now c.requires ∙ ap (last_accepted c.args.reference.now) (sym c.bounds-start.ensures.versions)

pub returns-in-Some-accepted : goal.returns-in-Some-accepted
returns-in-Some-accepted c =
    sym (c.loop-slot.invariant ∙ last_accepted_back c.args.reference.now _ _ c.in-Some-split_last.slot.now _ c.in-Some-split_last.ensures.cases.0 c.in-Some-accepted.ensures)

pub loop-slot-preserved : goal.loop-slot-preserved
loop-slot-preserved c =
    c.loop-slot.invariant ∙ last_accepted_back c.args.reference.now _ _ c.in-Some-split_last.slot.now _ c.in-Some-split_last.ensures.cases.0 c.in_default-accepted.ensures
