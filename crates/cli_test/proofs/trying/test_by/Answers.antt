use Rattle.std.proofs.Common.{◌≡◌, ◌∙◌, ℕ, Bool, true, false, Option, Some, None, Result, Ok, Err, ap, refl}
use Rattle.ent_wire.specs.declared.fault.ServeFault.{ServeFault}
use Rattle.ent_wire.specs.declared.fault.ServeFault.TheVariants.{Memory, Read, Write}
use Rattle.cli_test.specs.Ends.{IsOfTests}
use Rattle.cli_test.specs.Statuses.{covered_status, last_status, test_status}
use Rattle.cli_words.specs.Statuses.{fault_status}
use Rattle.cli_words.specs.declared.status.Unmet.TheVariants.{Failed}
use Rattle.cli_test.specs.declared.tally.Tally.{Tally}
use Rattle.cli_test.proofs.trying.test_by.Goals as goal

-- a fault has its status, whichever rules gave a decision
faulty : (is_short : Bool) (e : ServeFault) → covered_status is_short (fault_status e) ≡ fault_status e
faulty false e = refl
faulty true Read = refl
faulty true Write = refl
faulty true Memory = refl

-- coverage may be looked at before the last fault is, or behind it
either_way : (is_short : Bool) (fault : Option ServeFault) (tested : Result Tally ServeFault)
    → covered_status is_short (last_status fault (test_status tested)) ≡ last_status fault (covered_status is_short (test_status tested))
either_way is_short None tested = refl
either_way is_short (Some e) tested = faulty is_short e

-- the status of tests that ran
of_tests : (is_short : Bool) (fault : Option ServeFault) (tested : Result Tally ServeFault) (tallied ended status : ℕ)
    → tallied ≡ test_status tested → ended ≡ last_status fault tallied → status ≡ covered_status is_short ended → IsOfTests status
of_tests is_short fault tested tallied ended status first next last = (
  Ok (record { tested = tested; is_short = is_short; fault = fault }),
  last ∙ ap (covered_status is_short) (next ∙ ap (last_status fault) first) ∙ either_way is_short fault tested,
)

pub returns-in_default : goal.returns-in_default
returns-in_default g c = (Err (Failed Memory), c.status_of.ensures)

pub returns-in_default-share : goal.returns-in_default-share
returns-in_default-share g c = (Err (Failed Memory), c.status_of-in_default-share.ensures)

pub returns-in-Ok-write_junit : goal.returns-in-Ok-write_junit
returns-in-Ok-write_junit g c =
    of_tests c.covered_status-status.ensures.0 c.test_each-ended.result.fault c.write_end.result _ _ _ c.test_status-status.ensures c.status.ensures c.covered_status-status.ensures.1

pub returns-in-Some : goal.returns-in-Some
returns-in-Some g c = (Err (Failed c.in-Err.fault), c.fault_status.ensures)

pub returns : goal.returns
returns g c =
    of_tests c.covered_status-status.ensures.0 c.test_each-ended.result.fault c.write_end.result _ _ _ c.test_status-status.ensures c.status.ensures c.covered_status-status.ensures.1
