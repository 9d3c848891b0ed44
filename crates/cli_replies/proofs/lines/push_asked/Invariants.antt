use Rattle.std.proofs.Common.{◌≡◌, ◌++◌, take}
use Rattle.cli_replies.specs.Comparing.{asked}
use Rattle.cli_replies.proofs.lines.push_asked.Given as goal

-- the lines of the steps so far
abbrev pub invariant-loop-step : goal.invariant-loop-step
invariant-loop-step l = l.lines.items ≡ l.fn.lines.items ++ asked (take l.step-index l.steps)
