use Rattle.std.proofs.Common.{Err}
use Rattle.ent_wire.specs.declared.fault.ServeFault.TheVariants.{Memory}
use Rattle.cli_serve.proofs.streams.serve_input.Goals as goal

pub returns-in_default : goal.returns-in_default
returns-in_default g c = (Err Memory, c.status_of.ensures)

pub returns-in_default-new : goal.returns-in_default-new
returns-in_default-new g c = (Err Memory, c.status_of-in_default-new.ensures)
