use Rattle.std.proofs.Common.{◌++◌, subst, ◌∙◌}
use Rattle.memo_answers.specs.Told.{AreAmong}
use Rattle.memo_answers.proofs.Among.{among_behind}
use Rattle.memo_answers.proofs.cases.ToldCases.make_room.Goals as goal

pub returns-then-are_many : goal.returns-then-are_many
returns-then-are_many c =
    subst (λ l. AreAmong l (c.replace.result ++ c.replace.new.dest)) c.self.view_is
    (among_behind c.self.inside.older c.self.inside.latest c.replace.result c.replace.new.dest c.replace.ensures.value (c.replace.ensures.after ∙ c.new.ensures))
