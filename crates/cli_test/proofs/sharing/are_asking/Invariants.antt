use Rattle.std.proofs.Common.{◌≡◌, drop}
use Rattle.cli_test.specs.proofs_only.Sharing.{are_asking}
use Rattle.cli_test.proofs.sharing.are_asking.Given as goal

-- each step so far is one
abbrev pub invariant-loop-step : goal.invariant-loop-step
invariant-loop-step l = are_asking (drop l.step-index l.steps) ≡ are_asking l.steps
