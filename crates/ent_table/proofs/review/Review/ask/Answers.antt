use Rattle.std.proofs.Common.{◌≡◌, ◌∙◌}
use Rattle.std.proofs.lemmas.Result.{IfOk-weaker}
use Rattle.ent_request.specs.declared.answer.Answer.{Answer}
use Rattle.ent_table.specs.Ask.{answer_in}
use Rattle.ent_table.proofs.review.Review.ask.Goals as goal

pub returns-clause-answer : goal.returns-clause-answer
returns-clause-answer g c =
    let a : Answer = answer_in c.args.self.now.state c.args.request.now in
    IfOk-weaker c.copy.result (λ (x : Answer). x ≡ c.get.result.now) (λ (x : Answer). x ≡ a)
    (λ x e. e ∙ c.get.ensures ∙ c.in_ok-answer.ensures.answer) c.copy.ensures
