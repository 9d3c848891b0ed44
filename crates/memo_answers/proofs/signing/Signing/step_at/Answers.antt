use Rattle.std.proofs.Common.{◌≡◌, Some, ap, arith, length, refl, slice_get, subst, sym, ◌∙◌}
use Rattle.std.proofs.lemmas.Option.{slice_get_read, slice_get_within}
use Rattle.ent_request.specs.Questions.{at_numbers}
use Rattle.memo_plan.specs.CameBy.{came_by}
use Rattle.memo_plan.specs.Heard.{Gist}
use Rattle.memo_bags.proofs.Growing.{some_same}
use Rattle.memo_plan.specs.Plan.{task_goes_on}
use Rattle.memo_tests.specs.declared.outcome.TestOutcome.{TestOutcome}
use Rattle.memo_answers.specs.proofs_only.Signing.{TellsAt}
use Rattle.memo_answers.proofs.Kept.{outcome_there}
use Rattle.memo_answers.proofs.signing.Signing.step_at.Goals as goal

pub index-requires : goal.index-requires
index-requires g c = omega (arith, slice_get_within c.args.self.now.tests.list.items c.args.place c.requires.1.0 c.requires.1.1.0, c.args.self.now.tests.list.ok.0)

pub index-requires-in-Ok : goal.index-requires-in-Ok
index-requires-in-Ok g c =
    let s = c.args.self.now in
    let tests = s.tests.list.items in
    let test = c.index.result.now in
    let at = slice_get_read tests (length tests) c.args.place test refl (slice_get_within tests c.args.place c.requires.1.0 c.requires.1.1.0) c.index.ensures in
    let there = outcome_there s.questions tests c.args.place c.args.number c.requires.0 test c.requires.1 at in
    omega (arith, slice_get_within test.outcomes.items c.args.number there.0 there.1.0, test.outcomes.ok.0)

pub returns-in-Ok : goal.returns-in-Ok
returns-in-Ok g c = λ came tells.
    let s = c.args.self.now in
    let task = c.args.task.now in
    let tests = s.tests.list.items in
    let test = c.index.result.now in
    let at = slice_get_read tests (length tests) c.args.place test refl (slice_get_within tests c.args.place tells.0 tells.1.0) c.index.ensures in
    let there = outcome_there s.questions tests c.args.place c.args.number came test tells at in
    let outcomes = test.outcomes.items in
    let o : TestOutcome = c.index-in-Ok.result.now in
    let read : slice_get outcomes c.args.number ≡ Some o = slice_get_read outcomes (length outcomes) c.args.number o refl (slice_get_within outcomes c.args.number there.0 there.1.0) c.index-in-Ok.ensures in
    let same : o ≡ there.0 = some_same o there.0 (sym read ∙ there.1.0) in
    let gist : Gist = record { questions = at_numbers s.questions there.0.asked; failed = there.0.failed } in
    record {
      number = subst (λ n. TellsAt s c.args.place n came) (sym c.in-Ok.ensures.1) tells;
      goes_on = c.goes_on.ensures gist ∙ ap (λ (v : TestOutcome). task_goes_on task (came_by v.tested gist)) same ∙ ap (task_goes_on task) (sym there.1.1);
    }
