use Rattle.ent_command.proofs.ReadLemmas.{day_read, no_day_read}
use Rattle.ent_command.proofs.reading.read_day.Goals as goal

pub returns-in-Ok : goal.returns-in-Ok
returns-in-Ok c = day_read c.args.text.now c.day_of.result c.in-Ok.value c.in-Ok.ensures.read c.day_of.ensures.day c.day_of.ensures.none

pub returns-in-Err : goal.returns-in-Err
returns-in-Err c = no_day_read c.args.text.now c.in-Err.field-0 c.in-Err.ensures.bad c.in-Err.ensures.memory
