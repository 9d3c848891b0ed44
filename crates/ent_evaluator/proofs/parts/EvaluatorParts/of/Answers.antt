use Rattle.ent_eval.specs.LooksOf.{looks_of}
use Rattle.ent_evaluator.proofs.parts.EvaluatorParts.of.Goals as goal

pub returns-clause-knows : goal.returns-clause-knows
returns-clause-knows g c = c.new-2.ensures (looks_of c.args.pdp) c.new.result
