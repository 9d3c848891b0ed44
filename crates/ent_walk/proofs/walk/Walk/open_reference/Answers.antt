use Rattle.std.proofs.Common.{arith}
use Rattle.std.proofs.lemmas.Result.{IfOk-weaker}
use Rattle.ent_walk.specs.proofs_only.Opened.{left_part}
use Rattle.ent_walk.proofs.Hops.{answer_followed}
use Rattle.ent_walk.proofs.Left.{left_of_equal}
use Rattle.ent_walk.proofs.walk.Walk.open_reference.Goals as goal

pub returns-clause-left : goal.returns-clause-left
returns-clause-left g c =
    let looks = g.L.LookUps.looks c.args.self.now.lender.held in
    let request = c.args.self.now.lender.request in
    IfOk-weaker c.open_followed.result _ _ (λ o left path. left_of_equal _ _ (left_part looks request path o) c.args.self.now.notes c.open_followed.new.self.notes
    (answer_followed looks request c.args.hops c.args.reference.now (omega (arith, c.if-hops-eq0.false)) path) (left path)) c.open_followed.ensures.left
