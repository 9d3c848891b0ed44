use Rattle.std.proofs.Common.{◌∙◌}
use Rattle.ent_finder.proofs.Boxes.{module_seen}
use Rattle.ent_finder.proofs.finder.PolicyFinder.module.Goals as goal

-- the reference is to the box of that number
pub returns : goal.returns
returns g c =
    (λ t. (goal.PolicyFinderModule-dyn g (c.as_ref.ensures.1 t)).slots (c.as_ref.ensures.1 t).1)
    ∙ module_seen _ _ _ c.index.result.now _ c.requires c.index.ensures
