use Rattle.std.proofs.Common.{◌≡◌, drop}
use Rattle.cli_replies.specs.Comparing.{behind}
use Rattle.cli_replies.proofs.lines.behind.Given as goal

-- what stands behind the replies so far, and those to the others
abbrev pub invariant-loop : goal.invariant-loop
invariant-loop l = behind (drop l.index l.steps) l.rest ≡ behind l.steps l.replies
