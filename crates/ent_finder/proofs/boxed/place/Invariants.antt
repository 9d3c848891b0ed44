use Rattle.std.proofs.Common.{◌≡◌, ℕ, ◌<◌, ◌≤◌, ◌-◌, false, true}
use Rattle.std.specs.FinMap.{entries}
use Rattle.ent_finder.specs.proofs_only.Places.{is_before}
use Rattle.ent_finder.specs.Slots.{key_cmp}
use Rattle.ent_finder.proofs.boxed.place.Given as goal

abbrev pub invariant-loop-low : goal.invariant-loop-low
invariant-loop-low g l = record {
  ordered : l.low ≤ l.high;
  in_front : (index : ℕ) → index < l.low → is_before key_cmp l.key (entries ((goal.PolicyFinderModule-dyn g l.store.now).slots l.store.now.1)) index ≡ true;
  from_there : is_before key_cmp l.key (entries ((goal.PolicyFinderModule-dyn g l.store.now).slots l.store.now.1)) l.high ≡ false;
}

abbrev pub decreases-loop-low : goal.decreases-loop-low
decreases-loop-low g l = l.high - l.low
