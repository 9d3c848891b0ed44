use Rattle.std.proofs.Common.{◌≡◌, drop}
use Rattle.cli_test.specs.Testing.{has_expected}
use Rattle.cli_test.proofs.testing.has_expected.Given as goal

-- no step so far says it
abbrev pub invariant-loop-step : goal.invariant-loop-step
invariant-loop-step l = has_expected (drop l.step-index l.steps) ≡ has_expected l.steps
