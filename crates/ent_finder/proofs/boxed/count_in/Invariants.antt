use Rattle.std.proofs.Common.{◌≡◌, ◌≤◌, ◌-◌, length, take}
use Rattle.std.specs.FinMap.{entries}
use Rattle.std.specs.List.{filter_map}
use Rattle.ent_finder.specs.Slots.{filled_entry}
use Rattle.ent_finder.proofs.boxed.count_in.Given as goal

abbrev pub invariant-loop-slot : goal.invariant-loop-slot
invariant-loop-slot g l = record {
  counted : l.count ≡ length (filter_map filled_entry (take l.index (entries ((goal.PolicyFinderModule-dyn g l.store.now).slots l.store.now.1))));
  fits : l.count ≤ l.index;
  within : l.index ≤ length (entries ((goal.PolicyFinderModule-dyn g l.store.now).slots l.store.now.1));
}

abbrev pub decreases-loop-slot : goal.decreases-loop-slot
decreases-loop-slot g l = length (entries ((goal.PolicyFinderModule-dyn g l.store.now).slots l.store.now.1)) - l.index
