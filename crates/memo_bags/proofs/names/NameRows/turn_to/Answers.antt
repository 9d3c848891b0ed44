use Rattle.memo_bags.proofs.names.NameRows.turn_to.Goals as goal

pub returns-then-is_of-clause-at : goal.returns-then-is_of-clause-at
returns-then-is_of-clause-at c = c.is_of.ensures.is c.if-is_of.true
