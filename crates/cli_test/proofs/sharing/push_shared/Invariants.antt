use Rattle.std.proofs.Common.{◌≡◌, ◌++◌, [], false, take}
use Rattle.cli_replies.specs.Comparing.{asked}
use Rattle.cli_test.specs.proofs_only.Sharing.{shared_steps, sharing}
use Rattle.cli_test.proofs.sharing.push_shared.Given as goal

-- the lines of those so far that share a service, and whether there is one
abbrev pub invariant-loop-session : goal.invariant-loop-session
invariant-loop-session l = record {
  lines : l.lines.items ≡ l.fn.lines.items ++ asked (shared_steps l.plan (take l.session-index l.sessions));
  none : l.some ≡ false → sharing l.plan (take l.session-index l.sessions) ≡ [];
}
