-- What a test comes to alone, and what is heard of it.
use Rattle.std.proofs.Common.{◌≡◌, Bool, false, ◌||◌, List, [], Ok, Err, Result, Some, refl, ap, subst, ◌∙◌}
use Rattle.std.specs.Prelude.{IfOk, IfSome}
use Rattle.ent_request.specs.Causes.{are_any}
use Rattle.ent_request.specs.Looks.{Looks}
use Rattle.ent_request.specs.Note.{causes_in, questions_in}
use Rattle.ent_request.specs.Part.{Part}
use Rattle.ent_request.specs.declared.request.Request.{Request}
use Rattle.ent_request.specs.Questions.{asked_once}
use Rattle.ent_request.specs.declared.answer.Answer.{Answer}
use Rattle.ent_request.specs.declared.question.Question.{Question}
use Rattle.ent_trace.specs.proofs_only.Noted.{Notes, noting}
use Rattle.ent_walk.proofs.Parts.{keeps_on}
use Rattle.ent_walk.specs.declared.walk.Walk.{Walk}
use Rattle.ent_walk.specs.proofs_only.Comes.{Adds, Comes}
use Rattle.memo_plan.specs.CameBy.{came_by}
use Rattle.memo_plan.specs.Heard.{gist_of}
use Rattle.memo_plan.specs.declared.tested.Tested.{Tested}
use Rattle.ent_trace.proofs.AtEnd.{failed_is, told_questions}
use Rattle.memo_plan.specs.Alone.{task_part}
use Rattle.memo_plan.specs.Plan.{task_came}
use Rattle.memo_plan.specs.declared.task.TestTask.{TestTask}
use Rattle.memo_plan.specs.declared.task.TestTask.TheVariants as task

-- where nothing was noted before, what came of a part came of an equal one
pub comes_then : {L E A : Type 0} (meaning : A → Answer) (r : Result A E) (p q : Part Answer) (before between after : Walk L) → Adds [] before between → p ≡ q
    → IfOk r (λ a. Comes p between after (meaning a)) → IfOk r (λ a. Comes q before after (meaning a))
comes_then meaning (Ok a) p q before between after added same came = record {
  value = came.value ∙ ap (λ (s : Part Answer). s.value) same;
  notes = came.notes ∙ ap (λ n. noting n p.notes) added.notes ∙ ap (λ (s : Part Answer). noting before.notes s.notes) same;
  keeps = keeps_on before between after added.keeps came.keeps;
}
comes_then meaning (Err e) p q before between after added same came = tt

-- what is heard of a test is what is heard of it alone
pub heard_alone : (looks : Looks) (request : Request) (t : TestTask) → came_by (task_part looks request t).value (gist_of (task_part looks request t).notes) ≡ task_came t (record { looks = looks; request = request })
heard_alone looks request (task.Target x) = refl
heard_alone looks request (task.RuleTarget rule) = refl
heard_alone looks request (task.Condition within rule) = refl
heard_alone looks request (task.Decision within rule) = refl

-- what is noted of a test that is evaluated before anything was noted tells what is heard of it
pub heard_by : (looks : Looks) (request : Request) (t : TestTask) (before after : Notes) (tested : Tested) (questions : List Question) (failed : Bool) → before.questions ≡ Some [] → before.failed ≡ false
    → tested ≡ (task_part looks request t).value → after ≡ noting before (task_part looks request t).notes → IfSome after.questions (λ qs. questions ≡ qs) → failed ≡ after.failed
    → came_by tested (record { questions = questions; failed = failed }) ≡ task_came t (record { looks = looks; request = request })
heard_by looks request t before after tested questions failed none well value noted asked fails =
    let notes = (task_part looks request t).notes in
    let those : after.questions ≡ Some (asked_once [] (questions_in notes)) = ap (λ (n : Notes). n.questions) noted ∙ told_questions before [] notes none in
    let same : questions ≡ asked_once [] (questions_in notes) = subst (λ o. IfSome o (λ qs. questions ≡ qs)) those asked in
    let any : failed ≡ are_any (causes_in notes) = fails ∙ ap (λ (n : Notes). n.failed) noted ∙ failed_is before notes ∙ ap (λ b. b || are_any (causes_in notes)) well in
    ap (λ (v : Tested). came_by v (record { questions = questions; failed = failed })) value
    ∙ ap (λ qs. came_by (task_part looks request t).value (record { questions = qs; failed = failed })) same
    ∙ ap (λ b. came_by (task_part looks request t).value (record { questions = asked_once [] (questions_in notes); failed = b })) any
    ∙ heard_alone looks request t
