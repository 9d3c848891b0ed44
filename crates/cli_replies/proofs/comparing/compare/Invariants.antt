use Rattle.std.proofs.Common.{◌≡◌, ◌&&◌, drop}
use Rattle.cli_replies.specs.Comparing.{are_sure, behind, pass}
use Rattle.cli_replies.proofs.Compared.{IsTold}
use Rattle.cli_replies.proofs.comparing.compare.Given as goal

-- whether all replies so far and the others are as expected, what stands behind them, and what is told of them
abbrev pub invariant-loop-step : goal.invariant-loop-step
invariant-loop-step g l = record {
  passed : (l.passed && pass (drop l.step-index l.steps) l.rest) ≡ pass l.steps l.replies;
  sure : are_sure (drop l.step-index l.steps) l.rest ≡ are_sure l.steps l.replies;
  behind : behind (drop l.step-index l.steps) l.rest ≡ behind l.steps l.replies;
  told : IsTold (g.W.Write.contents l.fn.writer) (g.W.Write.contents l.writer) l.name l.steps l.replies (drop l.step-index l.steps) l.rest;
}
