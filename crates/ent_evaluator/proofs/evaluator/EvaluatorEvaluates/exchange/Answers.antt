use Rattle.std.proofs.Common.{ap}
use Rattle.ent_evaluator.proofs.evaluator.EvaluatorEvaluates.exchange.Goals as goal

pub returns-clause-made : goal.returns-clause-made
returns-clause-made g c = rw (← c.self.view_is) c.exchange.ensures.made

pub returns-clause-taken : goal.returns-clause-taken
returns-clause-taken g c = rw (← c.self.view_is) c.exchange.ensures.taken

pub returns-clause-absent : goal.returns-clause-absent
returns-clause-absent g c = rw (← c.self.view_is) c.exchange.ensures.absent

pub returns-clause-kept : goal.returns-clause-kept
returns-clause-kept g c = rw (← c.self.view_is) c.exchange.ensures.kept

pub returns-clause-numbers : goal.returns-clause-numbers
returns-clause-numbers g c = rw (← c.self.view_is) (ap (λ v. v.questions) c.exchange.ensures.rest)

pub returns-clause-counted : goal.returns-clause-counted
returns-clause-counted g c = rw (← c.self.view_is) (ap (λ v. v.pdp.evaluations) c.exchange.ensures.rest)

pub exchange-requires : goal.exchange-requires
exchange-requires g c = rw (← c.self.view_is) at c.requires

pub invariant_of-self : goal.invariant_of-self
invariant_of-self g c = c.exchange.ensures.knows c.self.invariant
