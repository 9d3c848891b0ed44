use Rattle.std.proofs.Common.{sym, subst}
use Rattle.memo_answers.specs.Told.{AreAmong}
use Rattle.memo_answers.proofs.Among.{put_behind}
use Rattle.memo_answers.proofs.cases.ToldCases.put.Goals as goal

pub returns : goal.returns
returns c =
    put_behind c.args.case c.args.self.now c.self.inside.older c.self.inside.latest c.put.new.self
    (subst (λ l. AreAmong c.args.self.now l) (sym c.self.view_is) c.make_room.ensures) c.put.ensures
