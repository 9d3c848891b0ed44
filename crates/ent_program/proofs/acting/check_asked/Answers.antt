use Rattle.std.proofs.Common.{Err}
use Rattle.ent_wire.specs.declared.fault.ServeFault.TheVariants.{Memory}
use Rattle.cli_words.specs.declared.status.Unmet.TheVariants.{Failed}
use Rattle.ent_program.proofs.acting.check_asked.Goals as goal

pub returns-in_default : goal.returns-in_default
returns-in_default g c = (Err (Failed Memory), c.status_of.ensures)
