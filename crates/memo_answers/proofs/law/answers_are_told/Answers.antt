use Rattle.memo_answers.specs.Known.{TellsIn}
use Rattle.memo_answers.proofs.ByWays.{answers_told}
use Rattle.memo_answers.proofs.law.answers_are_told.Goals as goal

pub returns : goal.returns
returns c = λ looks questions entries tests case w. answers_told looks questions entries (TellsIn questions tests) case w
