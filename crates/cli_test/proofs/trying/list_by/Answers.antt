use Rattle.std.proofs.Common.{◌∙◌, false, Ok, Err, ap}
use Rattle.ent_wire.specs.declared.fault.ServeFault.TheVariants.{Memory}
use Rattle.cli_test.specs.Statuses.{last_status}
use Rattle.cli_words.specs.declared.status.Unmet.TheVariants.{Failed}
use Rattle.cli_test.proofs.trying.list_by.Goals as goal

pub returns-in_default : goal.returns-in_default
returns-in_default g c = (Err (Failed Memory), c.status_of.ensures)

pub returns : goal.returns
returns g c =
    let fault = c.list_each-ended.result.fault in
    (Ok (record { tested = c.match-flush.flushed; is_short = false; fault = fault }), c.status.ensures ∙ ap (last_status fault) c.test_status.ensures)
