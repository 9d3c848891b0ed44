use Rattle.std.proofs.Common.{rules}
use Rattle.ent_index.proofs.Members.{lent_stay}
use Rattle.ent_index.proofs.names.NameCells.put_there.Goals as goal

pub returns-in_err-put-in-Some-clause-stay : goal.returns-in_err-put-in-Some-clause-stay
returns-in_err-put-in-Some-clause-stay c =
    let more = c.put.new.self in
    lent_stay c.args.self.now.rolls (c.get_mut.follows.lender more) c.args.name.now c.in-Some.roll.now more c.args.cell c.in-Some.ensures.value ((c.get_mut.follows.holds more).3 (search rules)).0
    (λ x apart h. c.put.ensures.stay x h)

pub returns-in_ok-put-in-Some-clause-stay : goal.returns-in_ok-put-in-Some-clause-stay
returns-in_ok-put-in-Some-clause-stay c =
    let more = c.put.new.self in
    lent_stay c.args.self.now.rolls (c.get_mut.follows.lender more) c.args.name.now c.in-Some.roll.now more c.args.cell c.in-Some.ensures.value ((c.get_mut.follows.holds more).3 (search rules)).0
    (λ x apart h. c.put.ensures.stay x h)
