use Rattle.ent_walk.proofs.gather.Gathering.take.Goals as goal

pub returns-in-None-clause-gathered : goal.returns-in-None-clause-gathered
returns-in-None-clause-gathered c = rw c.in-None.is c.pass.ensures.gathered

pub returns-in-Some-clause-gathered : goal.returns-in-Some-clause-gathered
returns-in-Some-clause-gathered c = rw c.in-Some.is c.take_answer.ensures.gathered
