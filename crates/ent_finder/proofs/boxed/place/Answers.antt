use Rattle.std.proofs.Common.{arith, sym, ◌∙◌}
use Rattle.std.specs.FinMap.{entries_sorted}
use Rattle.ent_finder.proofs.Sorted.{before_rises, not_before_rises}
use Rattle.ent_finder.proofs.Totals.{key_cmp_total}
use Rattle.ent_finder.proofs.boxed.place.Goals as goal

pub loop-low-preserved-then-is_before : goal.loop-low-preserved-then-is_before
loop-low-preserved-then-is_before g c =
    let here = sym c.is_before.ensures.before ∙ c.if-is_before.true in
    record {
      ordered = omega arith;
      in_front = λ index lt. before_rises key_cmp_total _ _ (entries_sorted _) index _ (omega arith) here;
      from_there = c.loop-low.invariant.from_there;
    }

pub returns : goal.returns
returns g c = record {
  in_front = c.loop-low.invariant.in_front;
  from_there = λ index le. not_before_rises key_cmp_total _ _ (entries_sorted _) c.loop-low.high index (omega arith) c.loop-low.invariant.from_there;
}
