use Rattle.ent_command.proofs.ReadLemmas.{moment_read, no_moment_read}
use Rattle.ent_command.proofs.reading.read_moment.Goals as goal

pub returns-in-Ok : goal.returns-in-Ok
returns-in-Ok c = moment_read c.args.text.now c.moment_of.result c.in-Ok.value c.in-Ok.ensures.read c.moment_of.ensures.moment c.moment_of.ensures.none

pub returns-in-Err : goal.returns-in-Err
returns-in-Err c = no_moment_read c.args.text.now c.in-Err.field-0 c.in-Err.ensures.bad c.in-Err.ensures.memory
