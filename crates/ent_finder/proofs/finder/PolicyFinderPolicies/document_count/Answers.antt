use Rattle.std.proofs.Common.{◌+◌, ◌∙◌, sym, arith}
use Rattle.std.specs.FinMap.{len}
use Rattle.ent_finder.proofs.Boxes.{count_more}
use Rattle.ent_finder.specs.Slots.{held}
use Rattle.ent_finder.proofs.finder.PolicyFinderPolicies.document_count.Goals as goal

pub loop-store-preserved : goal.loop-store-preserved
loop-store-preserved g c =
    let one = c.count_in.ensures ∙ (λ t. len (held ((goal.PolicyFinderModule-dyn g (c.as_ref.ensures.1 t)).slots (c.as_ref.ensures.1 t).1))) in
    record {
      counted = (λ t. c.loop-store.invariant.counted t + one t) ∙ sym (count_more _ _ c.loop-store.store-index c.store-item.result (omega arith) c.store-item.is);
      fits = omega arith;
    }
