use Rattle.std.proofs.Common.{◌≡◌, false, ℕ, ◌<◌, get_or}
use Rattle.cli_replies.specs.Comparing.{is_newline}
use Rattle.cli_replies.proofs.comparing.split_reply.Given as goal

-- no byte so far is a newline
abbrev pub invariant-loop-i : goal.invariant-loop-i
invariant-loop-i l = (k d : ℕ) → k < l.i → is_newline (get_or l.replies k d) ≡ false
