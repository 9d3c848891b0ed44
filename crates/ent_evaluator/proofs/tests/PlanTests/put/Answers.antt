use Rattle.std.proofs.Common.{refl, subst, sym, ◌∙◌}
use Rattle.ent_request.specs.Questions.{AreNumbers}
use Rattle.memo_answers.specs.declared.told.ToldAnswer.{ToldAnswer}
use Rattle.ent_evaluator.proofs.TestsKept.{case_put, heard_as}
use Rattle.ent_evaluator.proofs.tests.PlanTests.put.Goals as goal

pub returns : goal.returns
returns c = λ looks questions bags request are signed is.
    let told : ToldAnswer = record { way = c.in_ok-copied.field-0; answer = c.in_ok-copy.field-0; asked = c.in_ok-copy-2.field-0; failed = c.args.evaluation.now.failed } in
    case_put looks questions bags request c.args.self.now _ refl refl refl told c.put.ensures (c.in_ok-copied.ensures ∙ c.as_slice.ensures.value) (subst (AreNumbers questions) (sym c.in_ok-copy-2.ensures) is.within)
    (heard_as looks questions request told c.args.evaluation.now is c.in_ok-copy.ensures c.in_ok-copy-2.ensures refl) signed are
