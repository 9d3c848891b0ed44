use Rattle.ent_evaluator.proofs.parts.EvaluatorParts.keep.Goals as goal

pub keep-requires-clause-remembers : goal.keep-requires-clause-remembers
keep-requires-clause-remembers g c = rw (c.scene.ensures.held, c.scene.ensures.questions) c.requires.knows

pub keep-requires-clause-evaluated : goal.keep-requires-clause-evaluated
keep-requires-clause-evaluated g c = rw (c.scene.ensures.held, c.scene.ensures.questions, c.scene.ensures.person, c.scene.ensures.action, c.scene.ensures.resource) c.requires.evaluated

pub returns-clause-knows : goal.returns-clause-knows
returns-clause-knows g c = rw (c.scene.ensures.held, c.scene.ensures.questions) at c.keep.ensures.remembers
