use Rattle.ent_evaluator.proofs.TestsKept.{tests_compared}
use Rattle.ent_evaluator.proofs.tests.PlanTests.are_ready.Goals as goal

pub returns-clause-tests : goal.returns-clause-tests
returns-clause-tests g c = λ questions bags are.
    tests_compared (g.L.LookUps.looks c.args.held.now) questions bags c.args.self.now c.stand-stands.result (c.stand-stands.ensures questions bags are) are
