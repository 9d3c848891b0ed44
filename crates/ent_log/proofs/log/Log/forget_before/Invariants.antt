use Rattle.std.proofs.Common.{◌≡◌, ◌≤◌, length}
use Rattle.ent_log.specs.Entries.{entries_since}
use Rattle.ent_log.specs.Tables.{room_of}
use Rattle.ent_log.proofs.log.Log.forget_before.Given as goal

abbrev pub invariant-loop-first : goal.invariant-loop-first
invariant-loop-first g l = record {
  from : l.self.from ≡ l.initial.self.from;
  serial : l.self.serial ≡ l.initial.self.serial;
  entries : entries_since l.serial l.self.entries.items ≡ entries_since l.serial l.initial.self.entries.items;
  room : room_of l.initial.self ≤ room_of l.self;
}

abbrev pub decreases-loop-first : goal.decreases-loop-first
decreases-loop-first g l = length l.self.entries.items
