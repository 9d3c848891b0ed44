use Rattle.std.proofs.Common.{◌≡◌, subst, sym}
use Rattle.std.specs.Prelude.{IfSome}
use Rattle.memo_answers.specs.proofs_only.Signing.{request_of}
use Rattle.memo_answers.proofs.Follow.{follows_request}
use Rattle.memo_answers.proofs.signing.Signing.requested.Goals as goal

pub returns-in-Some-clause-follows : goal.returns-in-Some-clause-follows
returns-in-Some-clause-follows g c =
    let s = c.args.self.now in
    follows_request g.L.LookUps.looks s c.take.new.self (subst (λ o. IfSome o (λ r. r ≡ request_of s)) (sym c.take.ensures.after) tt)

pub returns-in-None-clause-follows : goal.returns-in-None-clause-follows
returns-in-None-clause-follows g c =
    let s = c.args.self.now in
    follows_request g.L.LookUps.looks s c.take.new.self (subst (λ o. IfSome o (λ r. r ≡ request_of s)) (sym c.take.ensures.after) tt)
