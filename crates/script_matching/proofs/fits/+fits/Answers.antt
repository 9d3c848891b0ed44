use Rattle.std.proofs.Common.{◌∙◌, arith, sym}
use Rattle.serde_json.specs.View.{view}
use Rattle.script_matching.proofs.Around.{none_passed, one_there, part_there, past_end}
use Rattle.script_matching.proofs.Lists.{depth_of_first, depth_of_member, unlike}
use Rattle.script_matching.proofs.fits.+fits.Goals as goal

pub are_alike-returns-then-items-others : goal.are_alike-returns-then-items-others
are_alike-returns-then-items-others t c = sym (unlike c.args.items.now c.args.others.now c.if-items-others.true)

pub are_alike-fits-requires : goal.are_alike-fits-requires
are_alike-fits-requires t c =
    let inside = depth_of_member c.args.items.now c.loop-i.i c.index-items-i.result c.loop-i-test.true c.index-items-i.is in
    (omega (arith, inside), tt)

pub are_among-place_of-requires : goal.are_among-place_of-requires
are_among-place_of-requires t c =
    let inside = depth_of_member c.args.items.now c.loop-item.item-index c.item-item.result c.loop-item-test.true c.item-item.is in
    (omega (arith, inside), tt)

pub stand_in-stands_at-requires : goal.stand_in-stands_at-requires
stand_in-stands_at-requires t c =
    let inside = depth_of_first c.loop-key.key-iterator c.next.new.self (c.in-Some.key.now, c.in-Some.member.now) c.in-Some.ensures.steps in
    (omega (arith, inside, c.loop-key.invariant.within), tt)

pub is_part_at-returns-in-Some : goal.is_part_at-returns-in-Some
is_part_at-returns-in-Some t c =
    c.fits.ensures ∙ part_there (view c.args.item.now) c.args.others.now c.args.place c.in-Some.other.now c.in-Some.ensures.lookup.3.0 c.in-Some.ensures.lookup.1

pub is_part_at-returns-in-None : goal.is_part_at-returns-in-None
is_part_at-returns-in-None t c = sym (past_end (view c.args.item.now) c.args.others.now c.args.place c.in-None.ensures.lookup.3)

pub place_around-returns-then-is_part_at : goal.place_around-returns-then-is_part_at
place_around-returns-then-is_part_at t c =
    sym (one_there (view c.args.item.now) c.args.others.now c.saturating_add-behind.result (sym c.is_part_at.ensures ∙ c.if-is_part_at.true))

pub place_around-returns-then-is_part_at-2 : goal.place_around-returns-then-is_part_at-2
place_around-returns-then-is_part_at-2 t c =
    sym (one_there (view c.args.item.now) c.args.others.now c.saturating_sub-before.result (sym c.is_part_at-in-loop-step.ensures ∙ c.if-is_part_at-2.true))

pub place_around-returns : goal.place_around-returns
place_around-returns t c =
    sym (none_passed (view c.args.item.now) c.args.others.now c.min-near.result c.loop-step.step
    (omega (arith, c.min-near.ensures, c.saturating_sub.ensures)) (omega (arith, c.loop-step-test.false, c.loop-step.auto.step-end)) c.loop-step.invariant)

pub place_of-returns-in-Some : goal.place_of-returns-in-Some
place_of-returns-in-Some t c =
    sym (one_there (view c.args.item.now) c.args.others.now c.in-Some.place (sym c.is_part_at.ensures ∙ c.if-is_part_at.true))
