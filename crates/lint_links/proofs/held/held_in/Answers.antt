use Rattle.std.proofs.Common.{arith, map, sym}
use Rattle.std.specs.FinMap.{entries}
use Rattle.ent_finder.specs.Entry as slots
use Rattle.lint_links.proofs.Steps.{slot_all, slot_more}
use Rattle.lint_links.specs.proofs_only.Rows.{entry_of}
use Rattle.lint_links.proofs.held.held_in.Goals as goal

pub loop-slot-preserved : goal.loop-slot-preserved
loop-slot-preserved c =
    let within = c.in-Some.ensures.within in
    record {
      gathered = slot_more (entries c.args.docs.now) c.loop-slot.index (slots.entry_of c.in-Some.slot.now) (map entry_of c.loop-slot.all.items) (map entry_of c.put.new.all.items)
          (sym c.in-Some.ensures.slot) c.loop-slot.invariant.gathered c.in_ok-put.ensures;
      within = omega (arith, within.0);
    }

pub returns : goal.returns
returns c = slot_all c.args.docs.now c.loop-slot.index (map entry_of c.loop-slot.all.items) c.in_default.ensures.past c.loop-slot.invariant.gathered
