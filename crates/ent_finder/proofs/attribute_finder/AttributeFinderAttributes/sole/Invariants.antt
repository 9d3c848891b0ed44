use Rattle.std.proofs.Common.{◌≡◌, drop, map}
use Rattle.ent_finder.specs.Looking.{looked}
use Rattle.ent_finder.specs.Rows.{filled_source}
use Rattle.ent_finder.proofs.attribute_finder.AttributeFinderAttributes.sole.Given as goal

-- what is found is found in the modules that are left
abbrev pub invariant-loop-store : goal.invariant-loop-store
invariant-loop-store g l =
    looked l.key (map filled_source (map (λ b. (goal.AttributeFinderModule-dyn g (b.vtable, b.value)).source b.value) l.store-items))
    ≡ looked l.key (map filled_source (map (λ b. (goal.AttributeFinderModule-dyn g (b.vtable, b.value)).source b.value) (drop l.store-index l.store-items)))
