use Rattle.memo_answers.proofs.Follow.{are_tested, follows_itself}
use Rattle.memo_answers.proofs.signing.Signing.sign.Goals as goal

pub sign-requires : goal.sign-requires
sign-requires g c = are_tested g.L.LookUps.looks c.args.self.now c.requires.signing c.requires.typed

pub returns-clause-signed : goal.returns-clause-signed
returns-clause-signed g c = c.sign.ensures.came

pub returns-clause-follows : goal.returns-clause-follows
returns-clause-follows g c = c.sign.ensures.grows.followed c.args.self.now (follows_itself g.L.LookUps.looks c.args.self.now)
