use Rattle.std.proofs.Common.{◌≡◌, length}
use Rattle.ent_finder.proofs.Recent.{last_accepted}
use Rattle.ent_finder.specs.Entry.{slots_of}
use Rattle.ent_finder.specs.Finding.{most_recent}
use Rattle.ent_finder.specs.Slots.{held}
use Rattle.ent_finder.proofs.list.find_reference.Given as goal

abbrev pub invariant-loop-slot : goal.invariant-loop-slot
invariant-loop-slot l = most_recent l.reference (held (slots_of l.slots)) ≡ last_accepted l.reference l.versions

abbrev pub decreases-loop-slot : goal.decreases-loop-slot
decreases-loop-slot l = length l.versions
