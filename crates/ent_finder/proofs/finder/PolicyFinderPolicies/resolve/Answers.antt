use Rattle.std.proofs.Common.{refl, arith, sym, ◌∙◌}
use Rattle.ent_finder.proofs.Boxes.{found_here, not_here, nowhere}
use Rattle.ent_finder.specs.Finding.{most_recent}
use Rattle.ent_finder.specs.Slots.{held}
use Rattle.ent_finder.proofs.finder.PolicyFinderPolicies.resolve.Goals as goal

pub loop-number-init : goal.loop-number-init
loop-number-init g c = refl

pub returns-in-Some : goal.returns-in-Some
returns-in-Some g c =
    rw (← c.deref-store-items.ensures.value)
    (sym (found_here _ c.args.reference.now c.deref-store-items.result.now c.loop-number.number c.store-item.result c.in-Some.document.now (omega arith) c.store-item.is (c.in-Some.ensures ∙ (λ t. most_recent c.args.reference.now (held ((goal.PolicyFinderModule-dyn g (c.as_ref.ensures.1 t)).slots (c.as_ref.ensures.1 t).1)))))
    ∙ sym c.loop-number.invariant)

pub loop-number-preserved : goal.loop-number-preserved
loop-number-preserved g c =
    c.loop-number.invariant ∙ not_here _ c.args.reference.now c.deref-store-items.result.now c.loop-number.number c.store-item.result (omega arith) c.store-item.is (c.in_default.ensures ∙ (λ t. most_recent c.args.reference.now (held ((goal.PolicyFinderModule-dyn g (c.as_ref.ensures.1 t)).slots (c.as_ref.ensures.1 t).1))))

pub returns : goal.returns
returns g c =
    rw (← c.deref-store-items.ensures.value)
    (sym (nowhere _ c.args.reference.now c.deref-store-items.result.now c.loop-number.number (omega arith)) ∙ sym c.loop-number.invariant)
