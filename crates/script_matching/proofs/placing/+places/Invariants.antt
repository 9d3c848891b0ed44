use Rattle.std.proofs.Common.{◌≡◌, ◌≤◌, ◌+◌, ◌*◌, ◌++◌, drop, length, map}
use Rattle.serde_json.specs.Data.{depth, items_depth, members_depth}
use Rattle.serde_json.specs.View.{items_view, members_view, view}
use Rattle.script_matching.specs.Places.{item_places, member_places}
use Rattle.script_matching.proofs.placing.+places.Given as goal

abbrev pub decreases-push_places : goal.decreases-push_places
decreases-push_places l = 4 * depth (view l.expected.now)

abbrev pub decreases-push_member : goal.decreases-push_member
decreases-push_member l = 4 * depth (view l.expected.now) + 1

abbrev pub decreases-push_items : goal.decreases-push_items
decreases-push_items l = 4 * items_depth (items_view l.items.now) + 2

abbrev pub decreases-push_list : goal.decreases-push_list
decreases-push_list l = 4 * items_depth (items_view l.items.now) + 3

abbrev pub decreases-push_members : goal.decreases-push_members
decreases-push_members l = 4 * members_depth (members_view l.members.now.entries) + 2

abbrev pub decreases-push_object : goal.decreases-push_object
decreases-push_object l = 4 * members_depth (members_view l.members.now.entries) + 3

-- the places so far, and the members from here on are left
abbrev pub invariant-push_items-loop-i : goal.invariant-push_items-loop-i
invariant-push_items-loop-i l = record {
  left : map (λ v. v.items) l.told.items ++ item_places l.i l.place (items_view (drop l.i l.items)) (items_view (drop l.i l.others))
      ≡ map (λ v. v.items) l.fn.told.items ++ item_places 0 l.place (items_view l.items) (items_view l.others);
  within : l.i ≤ length l.others;
}

-- the places so far, and the members at the keys from here on are left
abbrev pub invariant-push_members-loop-key : goal.invariant-push_members-loop-key
invariant-push_members-loop-key l = record {
  left : map (λ v. v.items) l.told.items ++ member_places l.whole l.place (members_view l.key-iterator) (view l.value)
      ≡ map (λ v. v.items) l.fn.told.items ++ member_places l.whole l.place (members_view l.members.entries) (view l.value);
  within : members_depth (members_view l.key-iterator) ≤ members_depth (members_view l.members.entries);
}
