use Rattle.std.proofs.Common.{refl}
use Rattle.ent_dump.proofs.output.send.Goals as goal

pub returns-in-Err : goal.returns-in-Err
returns-in-Err g c = let h = c.in-Err.ensures in (refl, h.1, h.2, h.3, h.4)
