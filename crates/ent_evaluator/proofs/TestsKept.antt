-- What is known of tests stays so, and what cases by their ways tell.
use Rattle.std.proofs.Common.{◌≡◌, inl, inr, ℕ, Bool, true, false, List, [], Some, None, Result, Ok, Err, slice_get, refl, sym, ap, subst, ◌∙◌}
use Rattle.std.specs.Prelude.{◌⊎◌, OnOk}
use Rattle.std.specs.List.{AllByRecursion}
use Rattle.ent_values.specs.Bags.{Contents}
use Rattle.ent_request.specs.Looks.{Looks}
use Rattle.ent_request.specs.Note.{causes_in}
use Rattle.ent_request.specs.Causes.{are_any}
use Rattle.ent_request.specs.Questions.{AreNumbers, asked_once, at_numbers}
use Rattle.ent_request.specs.declared.answer.Answer.{Answer}
use Rattle.ent_request.specs.declared.question.Question.{Question}
use Rattle.ent_request.specs.declared.request.Request.{Request}
use Rattle.ent_walk.specs.Answer.{answer as answer_of, answer_part, asked}
use Rattle.memo_plan.specs.Heard.{Came, Heard, came, heard}
use Rattle.memo_bags.specs.proofs_only.Ready.{Begins}
use Rattle.memo_bags.proofs.Growing.{all_by_place, all_map, some_same, starts_itself}
use Rattle.ent_request.proofs.Numbering.{all_at}
use Rattle.memo_plan.specs.Plan.{IsPlan, ItemFits, constant, goes_on, is_test, skip_of}
use Rattle.memo_plan.specs.declared.task.Entry.{Entry}
use Rattle.memo_plan.specs.declared.task.Item.{Item}
use Rattle.memo_plan.specs.declared.task.Item.TheVariants as item
use Rattle.memo_answers.specs.Known.{AreTestsOf, TellsIn}
use Rattle.memo_answers.specs.Told.{HasWay, IsPut, IsTold, Signs, comes_of, heard_case}
use Rattle.memo_answers.specs.declared.tests.EntryTests.{EntryTests as Learnt}
use Rattle.memo_answers.specs.declared.told.ToldAnswer.{ToldAnswer}
use Rattle.memo_replay.specs.Joined.{IsJoined}
use Rattle.memo_replay.specs.declared.joined.Joined.{Joined}
use Rattle.ent_trace.proofs.AtEnd.{any_once}
use Rattle.memo_plan.proofs.Ways.{way_still}
use Rattle.memo_answers.proofs.ByWays.{answers_told, cases_told, stay_told}
use Rattle.memo_answers.proofs.Kept.{tells_grow, tells_once, tests_at, tests_grow}
use Rattle.ent_evaluator.specs.Held.{HaveSameDocuments}
use Rattle.ent_evaluator.specs.Tests.{AreTests, AreTold, HasPlan, IsSigned, Stands}
use Rattle.ent_eval.specs.declared.pdp.ListedEvaluation.{ListedEvaluation}
use Rattle.ent_evaluator.specs.declared.plan.Plan.{Plan}
use Rattle.ent_evaluator.specs.declared.tests.PlanTests.{PlanTests}
use Rattle.ent_evaluator.specs.proofs_only.Remembered.{IsEvaluated}

-- ---- as questions and bags get numbers

module _ (questions more : List Question) (bags bigger : List Contents) (first : Begins more questions) (second : Begins bigger bags) (t : PlanTests) where
  told_more : (s : Looks) (p : Plan) → AreTold s questions bags p t → AreTold s more bigger p t
  told_more s p are = record {
    plan = are.plan;
    tests = tests_grow s questions more bags bigger first second p.entries t.learnt.list.items are.tests;
    cases = all_map (IsTold s questions p.entries (TellsIn questions t.learnt.list.items)) (IsTold s more p.entries (TellsIn more t.learnt.list.items))
        (λ c. stay_told s s questions more p.entries (TellsIn questions t.learnt.list.items) (TellsIn more t.learnt.list.items) c refl first
        (tells_grow s questions more bags bigger first second t.learnt.list.items))
        t.cases are.cases;
  }

  pub tests_more : (looks : Looks) → AreTests looks questions bags t → AreTests looks more bigger t
  tests_more looks are = record { told = λ p is s stands. told_more s p (are.told p is s stands); compared = are.compared }

-- ---- over all that a plan rests on

told_at : (looks s : Looks) (questions : List Question) (bags : List Contents) (p : Plan) (t : PlanTests) → Stands looks p → Stands s p → AreTold looks questions bags p t → AreTold s questions bags p t
told_at looks s questions bags p t here there are =
    let root : s.root ≡ looks.root = there.root ∙ sym here.root in
    let tells : ℕ → ℕ → Came → Type 0 = TellsIn questions t.learnt.list.items in
    record {
      plan = record { few = are.plan.few; typed = are.plan.typed; fits = there.fits; lists = λ w same fits. are.plan.lists w (same ∙ root) fits };
      tests = tests_at looks s questions bags p.entries t.learnt.list.items (there.date ∙ sym here.date, (there.time ∙ sym here.time, there.date_time ∙ sym here.date_time)) are.tests;
      cases = all_map (IsTold looks questions p.entries tells) (IsTold s questions p.entries tells)
          (λ c. stay_told looks s questions questions p.entries tells tells c root (starts_itself questions questions refl) (λ place n came h. h)) t.cases are.cases;
    }

-- what is so over what is held now is so over all of it
pub tests_now : (looks : Looks) (questions : List Question) (bags : List Contents) (p : Plan) (t : PlanTests) → t.plan ≡ Some p → Stands looks p → AreTold looks questions bags p t → AreTests looks questions bags t
tests_now looks questions bags p t at here are = record {
  told = λ q is s there. by q (some_same p q (sym at ∙ is)) s there;
  compared = λ _ q is. subst (Stands looks) (some_same p q (sym at ∙ is)) here;
} where
  by : (q : Plan) → p ≡ q → (s : Looks) → Stands s q → AreTold s questions bags q t
  by q same s there = subst (λ r. AreTold s questions bags r t) same (told_at looks s questions bags p t here (subst (Stands s) (sym same) there) are)

pub tests_none : (looks : Looks) (questions : List Question) (bags : List Contents) (t : PlanTests) → t.plan ≡ None → AreTests looks questions bags t
tests_none looks questions bags t none = record { told = λ p is s there. absurd (cc); compared = λ _ p is. absurd (cc) }

-- what is known of the plan that there is
pub told_of : (looks : Looks) (questions : List Question) (bags : List Contents) (t : PlanTests) (p : Plan) → t.plan ≡ Some p → HasPlan looks t → AreTests looks questions bags t → Stands looks p × AreTold looks questions bags p t
told_of looks questions bags t p at has are =
    let stands : Stands looks p = subst (Stands looks) (some_same has.0 p (sym has.1.0 ∙ at)) has.1.1 in
    (stands, are.told p at looks stands)

-- what is known after tests were signed
pub tests_signed : (looks : Looks) (questions more : List Question) (bags bigger : List Contents) (first : Begins more questions) (p : Plan) (entries : List Entry) (t u : PlanTests) → entries ≡ p.entries
    → t.plan ≡ Some p → HasPlan looks t → AreTests looks questions bags t → u.plan ≡ t.plan → u.cases ≡ t.cases → AreTestsOf looks more bigger entries u.learnt.list.items
    → ((place n : ℕ) (c : Came) → TellsIn questions t.learnt.list.items place n c → TellsIn more u.learnt.list.items place n c) → AreTests looks more bigger u
tests_signed looks questions more bags bigger first p entries t u same at has are plan cases tests tells =
    let told = told_of looks questions bags t p at has are in
    tests_now looks more bigger p u (plan ∙ at) told.0 (record {
      plan = told.1.plan;
      tests = subst (λ es. AreTestsOf looks more bigger es u.learnt.list.items) same tests;
      cases = subst (AllByRecursion (IsTold looks more p.entries (TellsIn more u.learnt.list.items))) (sym cases)
          (all_map (IsTold looks questions p.entries (TellsIn questions t.learnt.list.items)) (IsTold looks more p.entries (TellsIn more u.learnt.list.items))
          (λ c. stay_told looks looks questions more p.entries (TellsIn questions t.learnt.list.items) (TellsIn more u.learnt.list.items) c refl first tells) t.cases told.1.cases);
    })

pub is_signed : {E : Type 0} (r : Result (Unit {0}) E) (looks : Looks) (questions : List Question) (request : Request) (p : Plan) (entries : List Entry) (t u : PlanTests) → entries ≡ p.entries
    → t.plan ≡ Some p → HasPlan looks t → u.plan ≡ t.plan
    → OnOk r (Signs entries (TellsIn questions u.learnt.list.items) u.way.items (comes_of entries (record { looks = looks; request = request })))
    → OnOk r (IsSigned looks questions request u)
is_signed (Err e) looks questions request p entries t u same at has plan signs = tt
is_signed (Ok x) looks questions request p entries t u same at has plan signs = (
  p,
  (
    plan ∙ at,
    (
      subst (Stands looks) (some_same has.0 p (sym has.1.0 ∙ at)) has.1.1,
      subst (λ es. Signs es (TellsIn questions u.learnt.list.items) u.way.items (comes_of es (record { looks = looks; request = request }))) same signs,
    ),
  ),
)

-- a way tells the same as questions get numbers
pub signed_more : (looks : Looks) (questions more : List Question) (request : Request) (t u : PlanTests) → Begins more questions → u ≡ t → IsSigned looks questions request t → IsSigned looks more request u
signed_more looks questions more request t u begins same signed =
    subst (IsSigned looks more request) (sym same) (
      signed.0,
      (
        signed.1.0,
        (
          signed.1.1.0,
          way_still is_test constant (TellsIn questions t.learnt.list.items) goes_on skip_of (TellsIn more t.learnt.list.items)
              (tells_grow looks questions more [] [] begins (starts_itself [] [] refl) t.learnt.list.items)
              0 0 signed.0.entries t.way.items (comes_of signed.0.entries (record { looks = looks; request = request })) signed.1.1.1,
        ),
      ),
    )

-- the root of the plan that a way signs is the root, and the way tells what comes of the tests of the answer
pub root_signed : (looks : Looks) (questions : List Question) (request : Request) (t : PlanTests) (p : Plan) → t.plan ≡ Some p → IsSigned looks questions request t → looks.root ≡ Some p.root
root_signed looks questions request t p at signed = signed.1.1.0.root ∙ ap (λ (q : Plan). Some q.root) (some_same signed.0 p (sym signed.1.0 ∙ at))

pub came_signed : (looks : Looks) (questions : List Question) (bags : List Contents) (request : Request) (t : PlanTests) (p : Plan) → t.plan ≡ Some p → AreTests looks questions bags t
    → IsSigned looks questions request t → Signs p.entries (TellsIn questions t.learnt.list.items) t.way.items (came looks request)
came_signed looks questions bags request t p at are signed =
    let stands : Stands looks signed.0 = signed.1.1.0 in
    let plan : IsPlan looks signed.0.entries = (are.told signed.0 signed.1.0 looks stands).plan in
    subst (λ (q : Plan). Signs q.entries (TellsIn questions t.learnt.list.items) t.way.items (came looks request)) (some_same signed.0 p (sym signed.1.0 ∙ at))
    (subst (Signs signed.0.entries (TellsIn questions t.learnt.list.items) t.way.items) (plan.lists (record { looks = looks; request = request }) refl stands.fits) signed.1.1.1)

-- what is known stays so where the tries are counted otherwise, or another way is signed
pub tests_alike : (looks : Looks) (questions : List Question) (bags : List Contents) (t u : PlanTests) → u.plan ≡ t.plan → u.is_compared ≡ t.is_compared → u.learnt ≡ t.learnt → u.cases ≡ t.cases
    → AreTests looks questions bags t → AreTests looks questions bags u
tests_alike looks questions bags t u plan compared learnt cases are = record {
  told = λ p is s there. told_alike p s (are.told p (sym plan ∙ is) s there);
  compared = λ so p is. are.compared (sym compared ∙ so) p (sym plan ∙ is);
} where
  told_alike : (p : Plan) (s : Looks) → AreTold s questions bags p t → AreTold s questions bags p u
  told_alike p s told = record {
    plan = told.plan;
    tests = subst (λ (x : Learnt). AreTestsOf s questions bags p.entries x.list.items) (sym learnt) told.tests;
    cases = subst (λ (x : Learnt). AllByRecursion (IsTold s questions p.entries (TellsIn questions x.list.items)) u.cases) (sym learnt)
        (subst (AllByRecursion (IsTold s questions p.entries (TellsIn questions t.learnt.list.items))) (sym cases) told.cases);
  }

pub tests_counted : (looks : Looks) (questions : List Question) (bags : List Contents) (t u : PlanTests) → u ≡ record t { worth = u.worth } → AreTests looks questions bags t → AreTests looks questions bags u
tests_counted looks questions bags t u is are =
    tests_alike looks questions bags t u (ap (λ (x : PlanTests). x.plan) is) (ap (λ (x : PlanTests). x.is_compared) is) (ap (λ (x : PlanTests). x.learnt) is) (ap (λ (x : PlanTests). x.cases) is) are

pub signed_counted : (looks : Looks) (questions : List Question) (request : Request) (t u : PlanTests) → u ≡ record t { worth = u.worth } → IsSigned looks questions request t → IsSigned looks questions request u
signed_counted looks questions request t u is signed = subst (IsSigned looks questions request) (sym is) signed

-- where the plan is compared, or isn't
pub tests_compared : (looks : Looks) (questions : List Question) (bags : List Contents) (t : PlanTests) (b : Bool) → (b ≡ true → HasPlan looks t) → AreTests looks questions bags t
    → AreTests looks questions bags (record t { is_compared = b })
tests_compared looks questions bags t b has are = record {
  told = λ p is s there. let told = are.told p is s there in record { plan = told.plan; tests = told.tests; cases = told.cases };
  compared = λ is p at. let h = has is in subst (Stands looks) (some_same h.0 p (sym h.1.0 ∙ at)) h.1.1;
}

pub tests_closed : (looks other : Looks) (questions : List Question) (bags : List Contents) (t u : PlanTests) → u ≡ record t { is_compared = false } → AreTests looks questions bags t → AreTests other questions bags u
tests_closed looks other questions bags t u is are =
    subst (AreTests other questions bags) (sym is) (record {
      told = λ p at s there. let told = are.told p at s there in record { plan = told.plan; tests = told.tests; cases = told.cases };
      compared = λ so p at. absurd (cc);
    })

-- ---- where values alone are others

fits_still : (looks other : Looks) → HaveSameDocuments looks other → (i : Item) → ItemFits looks i → ItemFits other i
fits_still looks other same (item.Named named) fits = same.documents named.reference ∙ fits
fits_still looks other same item.Given fits = tt
fits_still looks other same (item.Test t) fits = tt

stands_still : (looks other : Looks) → HaveSameDocuments looks other → (p : Plan) → Stands looks p → Stands other p
stands_still looks other same p is = record {
  root = same.root ∙ is.root;
  date = same.date ∙ is.date;
  time = same.time ∙ is.time;
  date_time = same.date_time ∙ is.date_time;
  fits = all_map (λ (e : Entry). ItemFits looks e.item) (λ (e : Entry). ItemFits other e.item) (λ e. fits_still looks other same e.item) p.entries is.fits;
}

pub tests_still : (looks other : Looks) → HaveSameDocuments looks other → (questions : List Question) (bags : List Contents) (t : PlanTests) → AreTests looks questions bags t → AreTests other questions bags t
tests_still looks other same questions bags t are = record {
  told = are.told;
  compared = λ so p is. stands_still looks other same p (are.compared so p is);
}

-- ---- cases and evaluations

abbrev heard_of : Answer → List Question → Bool → Heard Answer
heard_of value questions failed = record { value = value; gist = record { questions = questions; failed = failed } }

same_heard : (v w : Answer) (qs rs : List Question) (f g : Bool) → v ≡ w → qs ≡ rs → f ≡ g → heard_of v qs f ≡ heard_of w rs g
same_heard v w qs rs f g value questions failed = ap (λ x. heard_of x qs f) value ∙ ap (λ x. heard_of w x f) questions ∙ ap (heard_of w rs) failed

module _ (looks : Looks) (questions : List Question) (request : Request) (c : ToldAnswer) (e : ListedEvaluation) where
  -- an evaluation as a case has it
  pub evaluated_as : heard (answer_part looks request) ≡ heard_case questions c → AreNumbers questions c.asked → e.answer ≡ c.answer → e.asked ≡ c.asked → e.failed ≡ c.failed
      → IsEvaluated looks questions request e
  evaluated_as same within answer asked failed = record {
    answer = answer ∙ sym (ap (λ (h : Heard Answer). h.value) same);
    asked = ap (at_numbers questions) asked ∙ sym (ap (λ (h : Heard Answer). h.gist.questions) same);
    within = subst (AreNumbers questions) (sym asked) within;
    failed = failed ∙ sym (ap (λ (h : Heard Answer). h.gist.failed) same) ∙ any_once (causes_in (answer_part looks request).notes);
  }

  -- a case as an evaluation has it
  pub heard_as : IsEvaluated looks questions request e → c.answer ≡ e.answer → c.asked ≡ e.asked → c.failed ≡ e.failed → heard (answer_part looks request) ≡ heard_case questions c
  heard_as is answer questions_same failed =
      same_heard (answer_of looks request) c.answer (asked_once [] (asked looks request)) (at_numbers questions c.asked) (are_any (causes_in (answer_part looks request).notes)) c.failed (sym (answer ∙ is.answer)) (sym (ap (at_numbers questions) questions_same ∙ is.asked)) (any_once (causes_in (answer_part looks request).notes) ∙ sym (failed ∙ is.failed))

-- what is joined, as an evaluation has it
pub evaluated_joined : (looks : Looks) (questions : List Question) (request : Request) (j : Joined) (e : ListedEvaluation) → IsJoined looks request questions j
    → e.answer ≡ j.answer → e.asked ≡ j.asked → e.failed ≡ j.failed → IsEvaluated looks questions request e
evaluated_joined looks questions request j e is answer asked failed = record {
  answer = answer ∙ sym (ap (λ (h : Heard Answer). h.value) is.is_heard);
  asked = ap (at_numbers questions) asked ∙ sym (ap (λ (h : Heard Answer). h.gist.questions) is.is_heard);
  within = subst (AreNumbers questions) (sym asked) is.within;
  failed = failed ∙ sym (ap (λ (h : Heard Answer). h.gist.failed) is.is_heard) ∙ any_once (causes_in (answer_part looks request).notes);
}

module _ (looks : Looks) (questions : List Question) (bags : List Contents) (request : Request) (t : PlanTests) where
  -- the case that the way tells
  pub way_tells : AreTests looks questions bags t → IsSigned looks questions request t → (c : ToldAnswer) → HasWay t.cases t.way.items c
      → (heard (answer_part looks request) ≡ heard_case questions c) × AreNumbers questions c.asked
  way_tells are signed c has =
      let p = signed.0 in
      let tells : ℕ → ℕ → Came → Type 0 = TellsIn questions t.learnt.list.items in
      let told = are.told p signed.1.0 looks signed.1.1.0 in
      let case : IsTold looks questions p.entries tells c = all_at (IsTold looks questions p.entries tells) t.cases has.0 c told.cases has.1.0 in (
        cases_told looks questions p.entries tells c (record { looks = looks; request = request }) case (tells_once questions t.learnt.list.items) refl signed.1.1.0.fits
            (subst (λ way. Signs p.entries tells way (comes_of p.entries (record { looks = looks; request = request }))) (sym has.1.1) signed.1.1.1),
        case.within,
      )

  -- a case is put
  pub case_put : (after : PlanTests) → after.plan ≡ t.plan → after.is_compared ≡ t.is_compared → after.learnt ≡ t.learnt → (c : ToldAnswer) → IsPut c t.cases after.cases → c.way ≡ t.way.items
      → AreNumbers questions c.asked → heard (answer_part looks request) ≡ heard_case questions c → IsSigned looks questions request t → AreTests looks questions bags t → AreTests looks questions bags after
  case_put after plan compared learnt c put way within same signed are =
      let p = signed.0 in
      let tells : ℕ → ℕ → Came → Type 0 = TellsIn questions t.learnt.list.items in
      let told = are.told p signed.1.0 looks signed.1.1.0 in
      let case : IsTold looks questions p.entries tells c =
      answers_told looks questions p.entries tells c (record { looks = looks; request = request }) told.plan refl signed.1.1.0.fits
      (subst (λ ns. Signs p.entries tells ns (comes_of p.entries (record { looks = looks; request = request }))) (sym way) signed.1.1.1) within same in
      tests_now looks questions bags p after (plan ∙ signed.1.0) signed.1.1.0 (record {
        plan = told.plan;
        tests = subst (λ (x : Learnt). AreTestsOf looks questions bags p.entries x.list.items) (sym learnt) told.tests;
        cases = subst (λ (x : Learnt). AllByRecursion (IsTold looks questions p.entries (TellsIn questions x.list.items)) after.cases) (sym learnt)
            (all_by_place (IsTold looks questions p.entries tells) after.cases (λ i d at. by (IsTold looks questions p.entries tells) told.cases case d (put i d at)));
      }) where
        by : (P : ToldAnswer → Type 0) → AllByRecursion P t.cases → P c → (d : ToldAnswer) → (d ≡ c) ⊎ ((i : ℕ) × (slice_get t.cases i ≡ Some d)) → P d
        by P all this d (inl same) = subst P (sym same) this
        by P all this d (inr old) = all_at P t.cases old.0 d all old.1
