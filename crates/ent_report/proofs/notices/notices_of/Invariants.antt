use Rattle.std.proofs.Common.{◌≡◌, ◌++◌, map}
use Rattle.ent_report.specs.Notices.{notice_of}
use Rattle.ent_report.proofs.notices.notices_of.Given as goal

abbrev pub invariant-loop-change : goal.invariant-loop-change
invariant-loop-change l = record {
  can : goal.iterator-loop-change.can_next l.change-iterator;
  ends : goal.iterator-loop-change.is_finite l.change-iterator;
  all : l.notices.items ++ map notice_of l.change-iterator.rest.items ≡ map notice_of l.fn.changes;
}
