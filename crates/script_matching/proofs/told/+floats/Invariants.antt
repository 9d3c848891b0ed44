use Rattle.std.proofs.Common.{◌≡◌, ◌≤◌, ◌+◌, ◌*◌, drop}
use Rattle.serde_json.specs.Data.{depth, items_depth, members_depth}
use Rattle.serde_json.specs.View.{items_view, members_view, view}
use Rattle.serde_json.specs.Written.{items_have_float, members_have_float}
use Rattle.script_matching.proofs.told.+floats.Given as goal

abbrev pub decreases-has_float : goal.decreases-has_float
decreases-has_float l = 2 * depth (view l.value.now)

abbrev pub decreases-items_have_float : goal.decreases-items_have_float
decreases-items_have_float l = 2 * items_depth (items_view l.items.now) + 1

abbrev pub decreases-members_have_float : goal.decreases-members_have_float
decreases-members_have_float l = 2 * members_depth (members_view l.members.now.entries) + 1

-- a member from here on has one where one of all has
abbrev pub invariant-items_have_float-loop-item : goal.invariant-items_have_float-loop-item
invariant-items_have_float-loop-item l = items_have_float (items_view (drop l.item-index l.items)) ≡ items_have_float (items_view l.items)

abbrev pub invariant-members_have_float-loop-member : goal.invariant-members_have_float-loop-member
invariant-members_have_float-loop-member l = record {
  left : members_have_float (members_view l.member-iterator) ≡ members_have_float (members_view l.members.entries);
  within : members_depth (members_view l.member-iterator) ≤ members_depth (members_view l.members.entries);
}
