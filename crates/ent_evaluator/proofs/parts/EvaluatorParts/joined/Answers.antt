use Rattle.ent_evaluator.proofs.parts.EvaluatorParts.joined.Goals as goal

pub joined-requires-clause-remembers : goal.joined-requires-clause-remembers
joined-requires-clause-remembers g c = rw (c.scene.ensures.held, c.scene.ensures.questions) c.requires.knows

pub joined-requires-clause-signed : goal.joined-requires-clause-signed
joined-requires-clause-signed g c = rw (c.scene.ensures.held, c.scene.ensures.questions, c.scene.ensures.person, c.scene.ensures.action, c.scene.ensures.resource) c.requires.signed

pub returns-clause-evaluated : goal.returns-clause-evaluated
returns-clause-evaluated g c = rw (c.scene.ensures.held, c.scene.ensures.questions, c.scene.ensures.person, c.scene.ensures.action, c.scene.ensures.resource) at c.joined.ensures.evaluated

pub returns-clause-knows : goal.returns-clause-knows
returns-clause-knows g c = rw (c.scene.ensures.held, c.scene.ensures.questions) at c.joined.ensures.remembers

pub returns-clause-signed : goal.returns-clause-signed
returns-clause-signed g c = rw (c.scene.ensures.held, c.scene.ensures.questions, c.scene.ensures.person, c.scene.ensures.action, c.scene.ensures.resource) at c.joined.ensures.signed
