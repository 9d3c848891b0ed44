use Rattle.ent_functions.proofs.Answered.{answered}
use Rattle.ent_functions.proofs.dispatch.well_typed_calls_have_answers.Goals as goal

pub returns : goal.returns
returns c = answered
