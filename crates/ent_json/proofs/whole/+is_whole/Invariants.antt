use Rattle.std.proofs.Common.{◌≡◌, drop}
use Rattle.std.specs.Option.{is_some}
use Rattle.json.specs.Value.{items_view, members_view}
use Rattle.serde_json.specs.Data.{no_members}
use Rattle.serde_json.specs.Read.{of_items, of_members}
use Rattle.ent_json.proofs.whole.+is_whole.Given as goal

abbrev pub invariant-are_items_whole-loop-item : goal.invariant-are_items_whole-loop-item
invariant-are_items_whole-loop-item l = is_some (of_items (items_view (drop l.item-index l.items))) ≡ is_some (of_items (items_view l.items))

abbrev pub invariant-are_members_whole-loop-member : goal.invariant-are_members_whole-loop-member
invariant-are_members_whole-loop-member l = is_some (of_members (members_view (drop l.member-index l.members)) no_members) ≡ is_some (of_members (members_view l.members) no_members)
