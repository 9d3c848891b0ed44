use Rattle.std.proofs.Common.{◌≡◌, ◌*◌, ◌^◌, ◌≤◌, map, take}
use Rattle.ent_finder.specs.Slots.{document_count, held}
use Rattle.ent_finder.proofs.finder.PolicyFinderPolicies.document_count.Given as goal

-- the documents of the modules so far are counted
abbrev pub invariant-loop-store : goal.invariant-loop-store
invariant-loop-store g l = record {
  counted : l.count ≡ document_count (map held (map (λ b. (goal.PolicyFinderModule-dyn g (b.vtable, b.value)).slots b.value) (take l.store-index l.store-items)));
  fits : l.count ≤ l.store-index * 2 ^ 64;
}
