use Rattle.std.proofs.Common.{◌∙◌, refl}
use Rattle.ent_policy.proofs.Extents.{bad_set, both, set_extent}
use Rattle.ent_policy.proofs.extent.+child.Goals as goal

pub set_extent-returns : goal.set_extent-returns
set_extent-returns t c =
    let found = rw c.in-Some.is at c.in_ok-children.ensures in
    let children = rw c.as_slice.ensures at found in
    let own = both _ _ _ _ _ c.and.ensures c.target_extent-target.ensures refl in
    let whole = both _ _ _ _ _ c.and-2.ensures own refl in
    (bad_set c.args.set.now ∙ rw (children.0, ← c.uses_none.ensures, c.if-not-uses_none.false) refl, set_extent c.args.set.now c.new.result c.in-Some.children c.in_ok-given.given c.and-2.result c.new.ensures.empty children.1 c.in_ok-given.ensures whole)
