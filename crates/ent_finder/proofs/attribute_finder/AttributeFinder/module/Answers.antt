use Rattle.std.proofs.Common.{◌∙◌}
use Rattle.ent_finder.proofs.Boxes.{module_seen}
use Rattle.ent_finder.proofs.attribute_finder.AttributeFinder.module.Goals as goal

-- the reference is to the box of that number
pub returns : goal.returns
returns g c =
    (λ t. (goal.AttributeFinderModule-dyn g (c.as_ref.ensures.1 t)).source (c.as_ref.ensures.1 t).1)
    ∙ module_seen _ _ _ c.index.result.now _ c.requires c.index.ensures
