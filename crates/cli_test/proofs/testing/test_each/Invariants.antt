use Rattle.std.proofs.Common.{Ok, drop, take}
use Rattle.cli_test.specs.Testing.{TestsEach}
use Rattle.cli_test.specs.proofs_only.Sharing.{AreShared, sharing}
use Rattle.cli_test.proofs.testing.test_each.Given as goal

-- those of the sessions so far that run are tested, and the replies to those of the others that share a service are at hand
abbrev pub invariant-loop-session : goal.invariant-loop-session
invariant-loop-session g l = record {
  tested : TestsEach l.plan l.name (take l.session-index l.sessions) (g.W.Write.contents l.fn.writer) (g.W.Write.contents l.writer) (Ok l.cases);
  at_hand : AreShared l.plan l.first (sharing l.plan (drop l.session-index l.sessions)) l.rest;
}
