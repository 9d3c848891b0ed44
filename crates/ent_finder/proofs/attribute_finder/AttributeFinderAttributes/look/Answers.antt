use Rattle.std.proofs.Common.{ap, arith, sym, ◌∙◌}
use Rattle.ent_values.specs.Bags.{Contents}
use Rattle.ent_finder.proofs.Refusals.{refused}
use Rattle.ent_finder.proofs.Sources.{found_none, found_some, passed_over, still_empty}
use Rattle.ent_finder.specs.Looking.{values_of}
use Rattle.ent_finder.specs.Rows.{filled, supports}
use Rattle.ent_finder.proofs.attribute_finder.AttributeFinderAttributes.look.Goals.{then-supports_in+in_ok-find_in+else-not-is_empty, else-supports_in}
use Rattle.ent_finder.proofs.attribute_finder.AttributeFinderAttributes.look.Goals as goal

-- the module supports the category and has values, and those are in the bag
pub returns-then-not-is_empty-clause-ok : goal.returns-then-not-is_empty-clause-ok
returns-then-not-is_empty-clause-ok g c =
    let key = c.args.key.now in
    let asked = c.supports_in.ensures ∙ (λ t. supports (c.as_str.ensures t) ((goal.AttributeFinderModule-dyn g (c.as_ref.ensures.1 t)).source (c.as_ref.ensures.1 t).1)) in
    let has = ap (λ (b : Contents). b.values) c.in_ok-find_in.ensures.ok
    ∙ (λ t. values_of key (filled ((goal.AttributeFinderModule-dyn g (c.as_ref-then-supports_in.ensures.1 t)).source (c.as_ref-then-supports_in.ensures.1 t).1).rows)) in
    let some = found_some _ key c.deref-store-items.result.now c.loop-store.store-index c.store-item.result (omega arith) c.store-item.is c.supports_in.result asked c.if-supports_in.true
    c.find_in.new.bag.values has (λ e. let empty = c.is_empty.ensures.1 e in cc) in
    rw (← c.deref-store-items.ensures.value)
    (λ t. record { datatype = ap (λ (b : Contents). b.datatype) c.in_ok-find_in.ensures.ok t; values = (some ∙ sym c.loop-store.invariant.found) t })

-- the module supports the category and has no values, or it isn't asked
pub loop-store-preserved : goal.loop-store-preserved
loop-store-preserved g c =
    let asked = c.supports_in.ensures ∙ (λ t. supports (c.as_str.ensures t) ((goal.AttributeFinderModule-dyn g (c.as_ref.ensures.1 t)).source (c.as_ref.ensures.1 t).1)) in
    elim c.if-supports_in.branch [
      | then-supports_in+in_ok-find_in+else-not-is_empty w ↦
          let key = c.args.key.now in
          let ok = w.in_ok-find_in.ensures.ok in
          let has = ap (λ (b : Contents). b.values) ok
          ∙ (λ t. values_of key (filled ((goal.AttributeFinderModule-dyn g (w.as_ref-then-supports_in.ensures.1 t)).source (w.as_ref-then-supports_in.ensures.1 t).1).rows)) in
          let empty = w.is_empty.ensures.0 (cc) in
          record {
            bag = w.bag-is ∙ still_empty w.find_in.new.bag c.args.bag.now key.datatype _ ok empty c.requires.datatype c.requires.empty;
            found = c.loop-store.invariant.found
                ∙ found_none _ key c.deref-store-items.result.now c.loop-store.store-index c.store-item.result (omega arith) c.store-item.is c.supports_in.result asked w.if-supports_in.true w.find_in.new.bag.values has empty;
          }
      | else-supports_in w ↦ record {
        bag = w.bag-is ∙ c.loop-store.invariant.bag;
        found = c.loop-store.invariant.found
            ∙ passed_over _ c.args.key.now c.deref-store-items.result.now c.loop-store.store-index c.store-item.result (omega arith) c.store-item.is c.supports_in.result asked w.if-supports_in.false;
      }
    ]

-- memory was refused for values of this module
pub returns-in_err-find_in-clause-memory : goal.returns-in_err-find_in-clause-memory
returns-in_err-find_in-clause-memory g c =
    let key = c.args.key.now in
    let asked = c.supports_in.ensures ∙ (λ t. supports (c.as_str.ensures t) ((goal.AttributeFinderModule-dyn g (c.as_ref.ensures.1 t)).source (c.as_ref.ensures.1 t).1)) in
    let here = found_some _ key c.deref-store-items.result.now c.loop-store.store-index c.store-item.result (omega arith) c.store-item.is c.supports_in.result asked c.if-supports_in.true _
    (λ t. values_of key (filled ((goal.AttributeFinderModule-dyn g (c.as_ref-then-supports_in.ensures.1 t)).source (c.as_ref-then-supports_in.ensures.1 t).1).rows))
    c.in_err-find_in.ensures.memory in
    refused c.from_residual.result (rw (← c.deref-store-items.ensures.value) (λ none. c.in_err-find_in.ensures.memory (here ∙ sym c.loop-store.invariant.found ∙ none)))
