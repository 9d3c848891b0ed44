use Rattle.std.proofs.Common.{◌≡◌, ◌≤◌, None, drop, length}
use Rattle.std.specs.BTreeMap.{get}
use Rattle.ent_log.specs.Entries.{answers_of, entries_since, first_answer_or}
use Rattle.ent_log.proofs.log.Log.old_answers.Given as goal

abbrev pub invariant-loop-place : goal.invariant-loop-place
invariant-loop-place g l = record {
  within : l.place ≤ length l.self.entries.items;
  later : entries_since l.serial (drop l.place l.self.entries.items) ≡ drop l.place l.self.entries.items;
  first : (k : g.row.K.Denot) →
      get g.K.Ord.cmp l.old_answers k ≡ first_answer_or g.K.Ord.cmp (answers_of (drop l.place l.self.entries.items)) k None;
}

abbrev pub decreases-loop-place : goal.decreases-loop-place
decreases-loop-place g l = l.place
