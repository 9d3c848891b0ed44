-- Slots as entries of a map.
use Rattle.std.specs.Prelude.{List, T, map, Option}
use Rattle.std.specs.FinMap.{from_sorted, is_sorted}
use Rattle.ent_policy.specs.declared.document.Tree.{Tree}
use Rattle.ent_policy.specs.declared.key.DocKey.{DocKey}
use Rattle.ent_finder.specs.declared.slot.DocSlot.{DocSlot}
use Rattle.ent_finder.specs.Slots.{Slots, key_cmp}

-- the key of a slot, and what is in it
abbrev pub entry_of : DocSlot → DocKey × Option Tree
entry_of slot = (slot.key, slot.document)

-- the entries of several slots
abbrev pub entries_of : List DocSlot → List (DocKey × Option Tree)
entries_of slots = map entry_of slots

-- the keys of the slots strictly rise
abbrev pub AreSorted : List DocSlot → Type 0
AreSorted slots = T (is_sorted key_cmp (entries_of slots))

-- slots in the order of their keys, as a map
abbrev pub slots_of : List DocSlot → Slots
slots_of slots = from_sorted (entries_of slots)
