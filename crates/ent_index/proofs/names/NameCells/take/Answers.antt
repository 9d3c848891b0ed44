use Rattle.std.proofs.Common.{None}
use Rattle.ent_index.proofs.Members.{empty_stay}
use Rattle.ent_index.proofs.names.NameCells.take.Goals as goal

pub returns-clause-stay : goal.returns-clause-stay
returns-clause-stay c =
    λ q x apart h.
    empty_stay c.take_one-is_last.new.self.rolls c.remove.new.self c.args.name.now None c.args.cell c.if-not-is_last.ensures.last c.remove.ensures.updates.0 q x apart (c.take_one-is_last.ensures.stay q x apart h)
