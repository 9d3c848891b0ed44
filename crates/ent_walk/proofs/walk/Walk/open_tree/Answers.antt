use Rattle.std.proofs.Common.{arith}
use Rattle.std.proofs.lemmas.Result.{IfOk-weaker}
use Rattle.ent_walk.proofs.Shallow.{shallow_set}
use Rattle.ent_walk.proofs.walk.Walk.open_tree.Goals as goal

pub returns-in-Set-clause-worth : goal.returns-in-Set-clause-worth
returns-in-Set-clause-worth g c =
    let small = shallow_set c.args.tree.now c.in-Set.set c.in-Set.is c.requires.shallow in
    IfOk-weaker c.open_set.result _ _ (λ o is. omega (arith, is, small)) c.open_set.ensures.worth
