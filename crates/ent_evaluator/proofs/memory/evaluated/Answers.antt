use Rattle.std.proofs.Common.{refl}
use Rattle.ent_evaluator.proofs.TestsKept.{evaluated_joined}
use Rattle.ent_evaluator.proofs.memory.evaluated.Goals as goal

pub returns : goal.returns
returns c = λ looks questions request is.
    evaluated_joined looks questions request c.args.joined _ is c.in_ok-answer.ensures c.in_ok-asked.ensures refl
