use Rattle.memo_answers.specs.Known.{TellsIn}
use Rattle.memo_answers.proofs.ByWays.{stay_told}
use Rattle.memo_answers.proofs.law.cases_stay_told.Goals as goal

pub returns : goal.returns
returns c =
    λ looks other questions more entries tests later case.
    stay_told looks other questions more entries (TellsIn questions tests) (TellsIn more later) case
