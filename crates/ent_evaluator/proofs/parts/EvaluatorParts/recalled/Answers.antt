use Rattle.ent_evaluator.proofs.parts.EvaluatorParts.recalled.Goals as goal

pub recall-requires : goal.recall-requires
recall-requires g c = rw (c.scene.ensures.held, c.scene.ensures.questions) c.requires

pub returns-clause-some : goal.returns-clause-some
returns-clause-some g c = rw (c.scene.ensures.held, c.scene.ensures.questions, c.scene.ensures.person, c.scene.ensures.action, c.scene.ensures.resource) at c.recall.ensures.some

pub returns-clause-none : goal.returns-clause-none
returns-clause-none g c = rw (c.scene.ensures.held, c.scene.ensures.questions, c.scene.ensures.person, c.scene.ensures.action, c.scene.ensures.resource) at c.recall.ensures.none

pub returns-clause-knows : goal.returns-clause-knows
returns-clause-knows g c = rw (c.scene.ensures.held, c.scene.ensures.questions) at c.recall.ensures.remembers

pub returns-clause-named : goal.returns-clause-named
returns-clause-named g c = rw (c.scene.ensures.held, c.scene.ensures.questions, c.scene.ensures.person, c.scene.ensures.action, c.scene.ensures.resource) at c.recall.ensures.named
