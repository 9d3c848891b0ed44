use Rattle.std.proofs.Common.{subst}
use Rattle.std.proofs.lemmas.Option.{IfSome_then}
use Rattle.memo_answers.specs.Told.{HasWay}
use Rattle.memo_answers.proofs.Among.{way_before, way_behind}
use Rattle.memo_answers.proofs.cases.ToldCases.find.Goals as goal

pub returns-in-Some : goal.returns-in-Some
returns-in-Some c =
    subst (λ l. HasWay l c.args.way.now c.in-Some.case.now) c.self.view_is
    (way_behind c.self.inside.older c.self.inside.latest c.args.way.now c.in-Some.case.now c.in-Some.ensures)

pub returns-in-None : goal.returns-in-None
returns-in-None c =
    IfSome_then c.find-in-None.result c.find-in-None.ensures
    (λ x has. subst (λ l. HasWay l c.args.way.now x.now) c.self.view_is (way_before c.self.inside.older c.self.inside.latest c.args.way.now x.now has))
