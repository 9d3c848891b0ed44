use Rattle.std.proofs.Common.{◌≡◌, ◌≤◌, ◌-◌, length, map, take}
use Rattle.std.specs.FinMap.{entries}
use Rattle.std.specs.List.{filter_map}
use Rattle.ent_finder.specs.Slots.{filled_entry}
use Rattle.lint_links.specs.proofs_only.Rows.{entry_of}
use Rattle.lint_links.proofs.held.held_in.Given as goal

abbrev pub invariant-loop-slot : goal.invariant-loop-slot
invariant-loop-slot l = record {
  gathered : map entry_of l.all.items ≡ filter_map filled_entry (take l.index (entries l.docs));
  within : l.index ≤ length (entries l.docs);
}

abbrev pub decreases-loop-slot : goal.decreases-loop-slot
decreases-loop-slot l = length (entries l.docs) - l.index
