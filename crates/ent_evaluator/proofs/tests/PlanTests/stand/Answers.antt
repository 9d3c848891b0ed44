use Rattle.ent_evaluator.proofs.tests.PlanTests.stand.Goals as goal

pub returns-then-self : goal.returns-then-self
returns-then-self g c = λ questions bags are so. (c.in-Some.plan, (c.in-Some.is, are.compared c.if-self.true c.in-Some.plan c.in-Some.is))

pub returns-else-self : goal.returns-else-self
returns-else-self g c = λ questions bags are so. (c.in-Some.plan, (c.in-Some.is, c.stands.ensures so))
