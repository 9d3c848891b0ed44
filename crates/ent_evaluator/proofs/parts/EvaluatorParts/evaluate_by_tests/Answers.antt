use Rattle.std.proofs.Common.{subst, sym}
use Rattle.ent_eval.specs.LooksOf.{looks_of}
use Rattle.ent_evaluator.specs.proofs_only.Remembered.{AreNamed}
use Rattle.ent_evaluator.proofs.Remembering.{begins_then}
use Rattle.ent_evaluator.proofs.parts.EvaluatorParts.evaluate_by_tests.Goals as goal

pub returns-in_err-tried-clause-knows : goal.returns-in_err-tried-clause-knows
returns-in_err-tried-clause-knows g c = c.in_err-tried.ensures.remembers c.args.self.now.questions c.requires.knows

pub sign-requires-clause-remembers : goal.sign-requires-clause-remembers
sign-requires-clause-remembers g c = c.in_ok-tried.ensures.remembers c.args.self.now.questions c.requires.knows

pub sign-requires-clause-plan : goal.sign-requires-clause-plan
sign-requires-clause-plan g c = c.in_ok-tried.ensures.planned c.args.self.now.questions c.requires.knows c.if-tried.true

pub sign-requires-clause-at : goal.sign-requires-clause-at
sign-requires-clause-at g c =
    subst (λ findings. AreNamed (looks_of c.args.self.now.pdp) c.args.self.now.questions findings c.args.names.person.now c.args.names.action.now c.args.names.resource.now) (sym c.in_ok-tried.ensures.findings) c.requires.named

pub returns-in_ok-sign-clause-numbers : goal.returns-in_ok-sign-clause-numbers
returns-in_ok-sign-clause-numbers g c = begins_then c.args.self.now.questions c.sign.new.questions c.evaluate_signed.new.self.questions c.in_ok-sign.ensures.questions c.evaluate_signed.ensures.numbers

pub evaluate_anew-requires : goal.evaluate_anew-requires
evaluate_anew-requires g c = c.in_ok-tried.ensures.remembers c.args.self.now.questions c.requires.knows
