use Rattle.ent_line.specs.World.{beside_of}
use Rattle.ent_line.proofs.KeptLemmas.{told_remembers}
use Rattle.ent_line.proofs.service.Service.run.Goals as goal

pub returns-in-Question-clause-remembered : goal.returns-in-Question-clause-remembered
returns-in-Question-clause-remembered g c =
    told_remembers c.args.self.now c.question.new.self (beside_of c.args.self.now) c.args.session _ c.question.result
    c.question.ensures.reply c.question.ensures.kept
