use Rattle.memo_answers.specs.Known.{TellsIn}
use Rattle.memo_answers.proofs.ByWays.{cases_told}
use Rattle.memo_answers.proofs.Kept.{tells_once}
use Rattle.memo_answers.proofs.law.cases_tell.Goals as goal

pub returns : goal.returns
returns c = λ looks questions entries tests case w is. cases_told looks questions entries (TellsIn questions tests) case w is (tells_once questions tests)
