use Rattle.std.proofs.Common.{Err}
use Rattle.ent_dump.specs.declared.fault.LinesFault.TheVariants.{Memory}
use Rattle.cli_serve.proofs.streams.write_lines.Goals as goal

pub returns-in_default : goal.returns-in_default
returns-in_default g c = (Err Memory, c.status_of.ensures)
