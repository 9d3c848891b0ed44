-- How tests end, and with which exit status.
use Rattle.std.specs.Prelude.{◌≡◌, ℕ, Bool, Option, Result, Ok, Err}
use Rattle.ent_wire.specs.declared.fault.ServeFault.{ServeFault}
use Rattle.cli_test.specs.Statuses.{covered_status, last_status, test_status}
use Rattle.cli_words.specs.Statuses.{unmet_status}
use Rattle.cli_words.specs.declared.status.Unmet.{Unmet}
use Rattle.cli_test.specs.declared.tally.Tally.{Tally}

-- how the tests of files ended: how many passed and failed, whether fewer rules than have to gave a decision, and the last fault of a file, if
-- there was one
pub record Ran : Type 0 where
  pub tested : Result Tally ServeFault
  pub is_short : Bool
  pub fault : Option ServeFault

-- the exit status of tests
abbrev pub ran_status : Result Ran Unmet → ℕ
ran_status (Ok ran) = last_status ran.fault (covered_status ran.is_short (test_status ran.tested))
ran_status (Err u) = unmet_status u

-- it is that of tests that ended somehow
abbrev pub IsOfTests : ℕ → Type 0
IsOfTests status = (ran : Result Ran Unmet) × (status ≡ ran_status ran)
