use Rattle.std.proofs.Common.{rules, ◌∙◌}
use Rattle.ent_index.proofs.Members.{lent_none, lent_stay, on_true}
use Rattle.ent_index.proofs.names.NameCells.take_one.Goals as goal

pub returns-in-Some-clause-stay : goal.returns-in-Some-clause-stay
returns-in-Some-clause-stay c =
    let more = c.take.new.self in
    lent_stay c.args.self.now.rolls (c.get_mut.follows.lender more) c.args.name.now c.in-Some.roll.now more c.args.cell c.in-Some.ensures.value ((c.get_mut.follows.holds more).3 (search rules)).0
    (λ x apart h. c.take.ensures.cells x apart ∙ h)

pub returns-in-Some-clause-last : goal.returns-in-Some-clause-last
returns-in-Some-clause-last c =
    let more = c.take.new.self in
    on_true c.is_empty.result c.is_empty.ensures (lent_none (c.get_mut.follows.lender more) c.args.name.now more ((c.get_mut.follows.holds more).3 (search rules)).1)
