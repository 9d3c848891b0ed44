use Rattle.std.proofs.Common.{Err}
use Rattle.cli_words.specs.declared.status.Unmet.TheVariants.{Failed}
use Rattle.cli_test.proofs.trying.run_tests.Goals as goal

pub returns-in-Err : goal.returns-in-Err
returns-in-Err g c = (Err c.in-Err.unmet, c.unmet_status.ensures)

pub returns-in-Err-read_state : goal.returns-in-Err-read_state
returns-in-Err-read_state g c = (Err (Failed c.in-Err-read_state.fault), c.fault_status.ensures)
