use Rattle.std.proofs.Common.{◌≡◌, drop, map}
use Rattle.ent_finder.proofs.Boxes.{resolved_from}
use Rattle.ent_finder.specs.Finding.{resolved}
use Rattle.ent_finder.specs.Slots.{held}
use Rattle.ent_finder.proofs.finder.PolicyFinderPolicies.resolve.Given as goal

-- what is resolved is resolved in the modules that are left
abbrev pub invariant-loop-number : goal.invariant-loop-number
invariant-loop-number g l =
    resolved l.reference (map held (map (λ b. (goal.PolicyFinderModule-dyn g (b.vtable, b.value)).slots b.value) l.store-items))
    ≡ resolved_from l.number l.reference (map held (map (λ b. (goal.PolicyFinderModule-dyn g (b.vtable, b.value)).slots b.value) (drop l.number l.store-items)))
