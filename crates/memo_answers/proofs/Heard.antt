-- What is heard of a test that is evaluated for a signing.
use Rattle.std.proofs.Common.{◌≡◌, ℕ, Bool, false, List, [], Some, sym, ap, ◌∙◌}
use Rattle.std.specs.Prelude.{IfSome}
use Rattle.ent_request.specs.Looks.{Looks}
use Rattle.ent_request.specs.Questions.{at_numbers}
use Rattle.ent_request.specs.declared.question.Question.{Question}
use Rattle.ent_walk.specs.declared.walk.Walk.{Walk}
use Rattle.ent_walk.specs.proofs_only.Comes.{Comes, in_walk}
use Rattle.memo_plan.specs.declared.tested.Tested.{Tested}
use Rattle.memo_plan.proofs.Evaluating.{heard_by}
use Rattle.memo_plan.specs.Alone.{task_part}
use Rattle.memo_plan.specs.Plan.{task_came}
use Rattle.memo_plan.specs.declared.task.TestTask.{TestTask}
use Rattle.memo_tests.specs.Tested.{came_of}
use Rattle.memo_answers.specs.proofs_only.Signing.{request_of, scene_of}
use Rattle.memo_answers.specs.declared.signing.Signing.{Signing}

-- an outcome by what was noted is what came of the test
pub outcome_heard : {L : Type 0} (looks : L → Looks) (s : Signing L) (t : TestTask) (before after : Walk L) (tested : Tested) (questions : List Question) (asked : List ℕ) (failed : Bool)
    → before.lender.held ≡ s.held.now → before.lender.request ≡ request_of s → before.notes.questions ≡ Some [] → before.notes.failed ≡ false
    → Comes (in_walk looks before task_part t) before after tested → IfSome after.notes.questions (λ qs. at_numbers questions asked ≡ qs) → failed ≡ after.notes.failed
    → task_came t (scene_of looks s) ≡ came_of questions (record { tested = tested; asked = asked; failed = failed })
outcome_heard looks s t before after tested questions asked failed held request none well comes those fails =
    ap (λ l. task_came t (record { looks = looks l; request = request_of s })) (sym held)
    ∙ ap (λ q. task_came t (record { looks = looks before.lender.held; request = q })) (sym request)
    ∙ sym (heard_by (looks before.lender.held) before.lender.request t before.notes after.notes tested (at_numbers questions asked) failed none well comes.value comes.notes those fails)
