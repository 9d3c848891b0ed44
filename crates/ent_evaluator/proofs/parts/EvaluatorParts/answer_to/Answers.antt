use Rattle.ent_eval.specs.LooksOf.{looks_of}
use Rattle.ent_evaluator.proofs.parts.EvaluatorParts.answer_to.Goals as goal

pub evaluate_listed-requires : goal.evaluate_listed-requires
evaluate_listed-requires g c = record {
  knows = c.forget_much.ensures (looks_of c.args.self.now.pdp) c.args.self.now.questions c.requires;
}
