use Rattle.std.proofs.Common.{◌+◌, arith, ap, sym, ◌∙◌}
use Rattle.ent_finder.proofs.Held.{filled_all, filled_no_more, filled_one_more}
use Rattle.ent_finder.specs.Entry.{entry_of}
use Rattle.ent_finder.proofs.boxed.count_in.Goals as goal

pub loop-slot-preserved-then-is_some : goal.loop-slot-preserved-then-is_some
loop-slot-preserved-then-is_some g c =
    let filled = sym c.is_some.ensures ∙ c.if-is_some.true in
    let within = c.in-Some.ensures.within in
    record {
      counted = ap (λ n. n + 1) c.loop-slot.invariant.counted ∙ sym (filled_one_more _ c.loop-slot.index (entry_of c.in-Some.slot.now) (sym c.in-Some.ensures.slot) filled);
      fits = omega arith;
      within = omega arith;
    }

pub loop-slot-preserved : goal.loop-slot-preserved
loop-slot-preserved g c =
    let empty = sym c.is_some.ensures ∙ c.if-is_some.false in
    let within = c.in-Some.ensures.within in
    record {
      counted = c.loop-slot.invariant.counted ∙ sym (filled_no_more _ c.loop-slot.index (entry_of c.in-Some.slot.now) (sym c.in-Some.ensures.slot) empty);
      fits = omega arith;
      within = omega arith;
    }

pub returns : goal.returns
returns g c = c.loop-slot.invariant.counted ∙ filled_all _ _ c.in_default.ensures.past
