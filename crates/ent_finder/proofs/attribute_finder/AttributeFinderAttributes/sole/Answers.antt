use Rattle.std.proofs.Common.{ap, arith, length, sym, ◌∙◌}
use Rattle.std.specs.Prelude.{◌==◌}
use Rattle.ent_finder.proofs.Lying.{none_there}
use Rattle.ent_finder.proofs.Sources.{found_none, found_some, passed_over}
use Rattle.ent_finder.specs.Looking.{values_of}
use Rattle.ent_finder.specs.Rows.{filled, supports}
use Rattle.ent_finder.proofs.attribute_finder.AttributeFinderAttributes.sole.Goals.{then-supports_in+in_ok-values+else-not-is_empty, else-supports_in}
use Rattle.ent_finder.proofs.attribute_finder.AttributeFinderAttributes.sole.Goals as goal

-- the module supports the category and has values, in one row
pub returns-then-not-is_empty-clause-value : goal.returns-then-not-is_empty-clause-value
returns-then-not-is_empty-clause-value g c =
    let key = c.args.key.now in
    let asked = c.supports_in.ensures ∙ (λ t. supports (c.as_str.ensures t) ((goal.AttributeFinderModule-dyn g (c.as_ref.ensures.1 t)).source (c.as_ref.ensures.1 t).1)) in
    let has = c.in_ok-values.ensures.value
    ∙ (λ t. values_of key (filled ((goal.AttributeFinderModule-dyn g (c.as_ref-then-supports_in.ensures.1 t)).source (c.as_ref-then-supports_in.ensures.1 t).1).rows)) in
    let some = found_some _ key c.deref-store-items.result.now c.loop-store.store-index c.store-item.result (omega arith) c.store-item.is c.supports_in.result asked c.if-supports_in.true
    c.in_ok-values.values.now has (λ e. let empty = c.is_empty.ensures ∙ ap (λ vs. length vs == 0) e in cc) in
    rw (← c.deref-store-items.ensures.value) (some ∙ sym c.loop-store.invariant)

-- the module supports the category and has no values, or it isn't asked
pub loop-store-preserved : goal.loop-store-preserved
loop-store-preserved g c =
    let asked = c.supports_in.ensures ∙ (λ t. supports (c.as_str.ensures t) ((goal.AttributeFinderModule-dyn g (c.as_ref.ensures.1 t)).source (c.as_ref.ensures.1 t).1)) in
    elim c.if-supports_in.branch [
      | then-supports_in+in_ok-values+else-not-is_empty w ↦
          let key = c.args.key.now in
          let has = w.in_ok-values.ensures.value
          ∙ (λ t. values_of key (filled ((goal.AttributeFinderModule-dyn g (w.as_ref-then-supports_in.ensures.1 t)).source (w.as_ref-then-supports_in.ensures.1 t).1).rows)) in
          let empty = none_there w.in_ok-values.values.now (sym w.is_empty.ensures ∙ (cc)) in
          c.loop-store.invariant
          ∙ found_none _ key c.deref-store-items.result.now c.loop-store.store-index c.store-item.result (omega arith) c.store-item.is c.supports_in.result asked w.if-supports_in.true w.in_ok-values.values.now has empty
      | else-supports_in w ↦ c.loop-store.invariant
          ∙ passed_over _ c.args.key.now c.deref-store-items.result.now c.loop-store.store-index c.store-item.result (omega arith) c.store-item.is c.supports_in.result asked w.if-supports_in.false
    ]
