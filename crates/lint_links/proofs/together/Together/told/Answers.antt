use Rattle.lint_links.proofs.together.Together.told.Goals as goal

pub faults-requires-clause-long : goal.faults-requires-clause-long
faults-requires-clause-long c = c.in_ok-links.ensures.long

pub faults-requires-clause-endless : goal.faults-requires-clause-endless
faults-requires-clause-endless c = c.in_ok-links.ensures.endless

pub faults-requires-clause-found : goal.faults-requires-clause-found
faults-requires-clause-found c = c.in_ok-links.ensures.found

pub returns : goal.returns
returns c = c.in_ok-faults.ensures
