use Rattle.std.proofs.Common.{◌≡◌, ◌≤◌, ◌+◌, ◌*◌, drop, false}
use Rattle.serde_json.specs.Data.{depth, items_depth, members_depth}
use Rattle.serde_json.specs.View.{items_view, members_view, view}
use Rattle.script_matching.specs.Matching.{alike, are_among, stand_in}
use Rattle.script_matching.proofs.Around.{IsPassed}
use Rattle.script_matching.proofs.fits.+fits.Given as goal

abbrev pub decreases-fits : goal.decreases-fits
decreases-fits l = 6 * depth (view l.expected.now)

abbrev pub decreases-stands_at : goal.decreases-stands_at
decreases-stands_at l = 6 * depth (view l.expected.now) + 1

abbrev pub decreases-is_part_at : goal.decreases-is_part_at
decreases-is_part_at l = 6 * depth (view l.item.now) + 1

abbrev pub decreases-place_around : goal.decreases-place_around
decreases-place_around l = 6 * depth (view l.item.now) + 2

abbrev pub decreases-place_of : goal.decreases-place_of
decreases-place_of l = 6 * depth (view l.item.now) + 3

abbrev pub decreases-are_among : goal.decreases-are_among
decreases-are_among l = 6 * items_depth (items_view l.items.now) + 4

abbrev pub decreases-are_alike : goal.decreases-are_alike
decreases-are_alike l = 6 * items_depth (items_view l.items.now) + 3

abbrev pub decreases-list_fits : goal.decreases-list_fits
decreases-list_fits l = 6 * items_depth (items_view l.items.now) + 5

abbrev pub decreases-stand_in : goal.decreases-stand_in
decreases-stand_in l = 6 * members_depth (members_view l.members.now.entries) + 2

-- the members from here on are alike where all are
abbrev pub invariant-are_alike-loop-i : goal.invariant-are_alike-loop-i
invariant-are_alike-loop-i l = alike (items_view (drop l.i l.items)) (items_view (drop l.i l.others)) ≡ alike (items_view l.items) (items_view l.others)

-- the members from here on are there where all are
abbrev pub invariant-are_among-loop-item : goal.invariant-are_among-loop-item
invariant-are_among-loop-item l = are_among (items_view (drop l.item-index l.items)) (items_view l.others) ≡ are_among (items_view l.items) (items_view l.others)

-- none of those that were looked at is one of which it is a part
abbrev pub invariant-place_around-loop-step : goal.invariant-place_around-loop-step
invariant-place_around-loop-step l = IsPassed (view l.item) l.others l.near l.step

-- what is expected at the keys from here on stands there where all does
abbrev pub invariant-stand_in-loop-key : goal.invariant-stand_in-loop-key
invariant-stand_in-loop-key l = record {
  left : stand_in l.whole (members_view l.key-iterator) (view l.value) ≡ stand_in l.whole (members_view l.members.entries) (view l.value);
  within : members_depth (members_view l.key-iterator) ≤ members_depth (members_view l.members.entries);
}
