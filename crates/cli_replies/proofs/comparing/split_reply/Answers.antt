use Rattle.std.proofs.Common.{ap}
use Rattle.script_files.proofs.Firsts.{after_first_at, after_first_nowhere, before_first_at, before_first_nowhere}
use Rattle.cli_replies.specs.Comparing.{is_newline}
use Rattle.cli_replies.proofs.comparing.split_reply.Goals as goal

pub returns-then-replies-i-eq10-clause-first : goal.returns-then-replies-i-eq10-clause-first
returns-then-replies-i-eq10-clause-first c =
    before_first_at is_newline c.args.replies.now c.loop-i.i c.loop-i.invariant 0 c.loop-i-test.true (ap is_newline c.if-replies-i-eq10.true)

pub returns-then-replies-i-eq10-clause-behind : goal.returns-then-replies-i-eq10-clause-behind
returns-then-replies-i-eq10-clause-behind c =
    after_first_at is_newline c.args.replies.now c.loop-i.i c.loop-i.invariant 0 c.loop-i-test.true (ap is_newline c.if-replies-i-eq10.true)

pub returns-clause-first : goal.returns-clause-first
returns-clause-first c = before_first_nowhere is_newline c.args.replies.now c.loop-i.i c.loop-i.invariant c.loop-i-test.false

pub returns-clause-behind : goal.returns-clause-behind
returns-clause-behind c = after_first_nowhere is_newline c.args.replies.now c.loop-i.i c.loop-i.invariant c.loop-i-test.false
