use Rattle.std.proofs.Common.{◌≡◌, true, ap, subst, ◌∙◌}
use Rattle.ent_index.proofs.Members.{empty_stay, from_false, from_true, has_in, under_in}
use Rattle.ent_index.proofs.names.NameCells.put.Goals as goal

pub returns-then-is_there-clause-there : goal.returns-then-is_there-clause-there
returns-then-is_there-clause-there c = from_true c.in_ok-is_there.is_there c.if-is_there.true c.in_ok-is_there.ensures.there

pub returns-clause-there : goal.returns-clause-there
returns-clause-there c =
    subst (λ n. under_in c.insert.new.self n c.args.cell ≡ true) c.in_ok-name.ensures (ap (λ o. has_in o c.args.cell) c.in_ok-insert.ensures.updates.1 ∙ c.in_ok-put.ensures.there)

pub returns-clause-stay : goal.returns-clause-stay
returns-clause-stay c =
    let before = c.put_there.new.self.rolls in
    λ q x apart h.
    empty_stay before c.insert.new.self c.in_ok-name.name _ c.args.cell
    (λ y. ap (λ n. under_in before n y) c.in_ok-name.ensures ∙ from_false c.in_ok-is_there.is_there c.if-is_there.false c.in_ok-is_there.ensures.absent y)
    c.in_ok-insert.ensures.updates.0 q x apart (c.in_ok-is_there.ensures.stay q x apart h)
