use Rattle.std.proofs.Common.{refl}
use Rattle.ent_request.specs.Plain.{nothing}
use Rattle.ent_walk.proofs.Gathered.{gathers, status_stays}
use Rattle.ent_walk.proofs.gather.Gathering.pass.Goals as goal

pub returns-clause-gathered : goal.returns-clause-gathered
returns-clause-gathered c = λ algorithm js so_far.
    gathers algorithm c.args.self.now js nothing c.take.new.self _ _ _ so_far c.take.ensures.algorithm c.take.ensures.taken (status_stays _ nothing.status) refl refl
