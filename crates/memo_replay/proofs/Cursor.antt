-- Where outcomes are read: what comes next, and what stands behind it.
use Rattle.std.proofs.Common.{◌≡◌, ℕ, zero, suc, ◌+◌, Bool, true, List, [], ◌∷◌, Some, drop, slice_get, sym, ap, subst, ◌∙◌, arith}
use Rattle.std.specs.Prelude.{Err, IfOk, Ok, Option, Result, if◌then◌else◌}
use Rattle.std.specs.List.{IsDistinct}
use Rattle.std.proofs.lemmas.List.{drop-drop}
use Rattle.ent_policy.specs.declared.document.Tree.{Tree}
use Rattle.ent_policy.specs.declared.key.Reference.{Reference}
use Rattle.ent_request.specs.Note.{asks}
use Rattle.ent_request.specs.Questions.{AreNumbers, same_question}
use Rattle.ent_request.specs.declared.question.Question.{Question}
use Rattle.ent_request.specs.declared.question.Question.TheVariants.{Ref}
use Rattle.memo_bags.proofs.Growing.{some_same}
use Rattle.memo_plan.specs.CameBy.{came_by}
use Rattle.memo_plan.specs.Heard.{Came, Gist, gist_of, named}
use Rattle.memo_plan.specs.Plan.{constant, goes_on, is_test, item_goes_on, item_is_test, skip_of, task_goes_on}
use Rattle.memo_plan.specs.Run.{CameBy, Signs, passed}
use Rattle.memo_plan.specs.declared.task.Entry.{Entry}
use Rattle.memo_plan.specs.declared.task.Item.{Item}
use Rattle.memo_plan.specs.declared.task.Item.TheVariants as item
use Rattle.memo_plan.specs.declared.task.TestTask.{TestTask}
use Rattle.memo_tests.specs.Tested.{came_of}
use Rattle.memo_tests.specs.declared.outcome.TestOutcome.{TestOutcome}
use Rattle.memo_tests.specs.declared.test.Test.{Test}
use Rattle.memo_answers.specs.Known.{TellsIn}
use Rattle.memo_replay.specs.declared.over.Next.{Next}
use Rattle.memo_replay.specs.declared.over.Over.{Over}
use Rattle.memo_replay.specs.declared.state.JoinState.{JoinState}
use Rattle.memo_replay.specs.proofs_only.Heard.{HearsMore, HearsNothing, StaysThere, gist_by}
use Rattle.memo_replay.specs.proofs_only.Stands.{Goes, IsNext, Stands, StandsFrom, questions_of}
use Rattle.memo_replay.proofs.Hearing.{hears_before_nothing, hears_behind_nothing, stands_there}

-- ---- lists

-- from the place of something on a list begins with it
drop_there : {A : Type 0} (xs : List A) (i : ℕ) (x : A) → slice_get xs i ≡ Some x → drop i xs ≡ x ∷ drop (suc i) xs
drop_there [] i x is = absurd (cc)
drop_there (y ∷ ys) zero x is = ap (λ z. z ∷ ys) (some_same y x is)
drop_there (y ∷ ys) (suc i) x is = drop_there ys i x is

-- ---- what comes of tests

module _ {E C : Type 0} (is_test : E → Bool) (constant : E → C) (tells : ℕ → ℕ → C → Type 0) (goes_on : E → C → Bool) (skip : E → ℕ) where
  abbrev By : ℕ → ℕ → List E → List ℕ → List C → Type 0
  By place k es way cs = CameBy is_test constant tells goes_on skip place k es way cs

  -- behind entries that are passed
  came_behind : (place k : ℕ) (es : List E) (way : List ℕ) (cs : List C) → By place k es way cs → By (place + k) 0 (drop k es) way cs
  came_behind place zero es way cs by =
      let here : place ≡ place + zero = omega arith in
      subst (λ p. By p 0 es way cs) here by
  came_behind place (suc k) [] way cs by = by
  came_behind place (suc k) (e ∷ es) way cs by =
      let on : suc place + k ≡ place + suc k = omega arith in
      subst (λ p. By p 0 (drop k es) way cs) on (came_behind (suc place) k es way cs by)

  -- a test comes next, of which the way's next number tells
  came_test : (entries : List E) (place : ℕ) (e : E) (way : List ℕ) (at n : ℕ) (c : C) (cs : List C)
      → slice_get entries place ≡ Some e → is_test e ≡ true → slice_get way at ≡ Some n → By place 0 (drop place entries) (drop at way) (c ∷ cs)
      → tells place n c × By (suc place) (passed goes_on skip e c) (drop (suc place) entries) (drop (suc at) way) cs
  came_test entries place e way at n c cs there test number by =
      let one : By place 0 (e ∷ drop (suc place) entries) (drop at way) (c ∷ cs) = subst (λ es. By place 0 es (drop at way) (c ∷ cs)) (drop_there entries place e there) by in
      let two : By place 0 (e ∷ drop (suc place) entries) (n ∷ drop (suc at) way) (c ∷ cs) =
      subst (λ w. By place 0 (e ∷ drop (suc place) entries) w (c ∷ cs)) (drop_there way at n number) one in
      subst (λ b. Signs is_test constant tells goes_on skip b place e (n ∷ drop (suc at) way) c
      (λ rest. By (suc place) (passed goes_on skip e c) (drop (suc place) entries) rest cs)) test two

  -- behind an entry, and those that are passed
  came_on : (entries : List E) (place k next : ℕ) (way : List ℕ) (cs : List C) → next ≡ place + 1 + k
      → By (suc place) k (drop (suc place) entries) way cs → By next 0 (drop next entries) way cs
  came_on entries place k next way cs is by =
      let on : suc place + k ≡ next = omega (arith, is) in
      let far : By (suc place + k) 0 (drop (suc place + k) entries) way cs =
      subst (λ es. By (suc place + k) 0 es way cs) (drop-drop k (suc place) entries) (came_behind (suc place) k (drop (suc place) entries) way cs by) in
      subst (λ p. By p 0 (drop p entries) way cs) on far

-- ---- where a state stands

-- how many are passed behind a test that comes to this
passed_there : (e : Entry) (task : TestTask) (c d : Came) → e.item ≡ item.Test task → c ≡ d
    → passed goes_on skip_of e c ≡ (if task_goes_on task d then 0 else e.skip)
passed_there e task c d is same =
    ap (λ (x : Came). if item_goes_on e.item x then 0 else e.skip) same ∙ ap (λ (i : Item). if item_goes_on i d then 0 else e.skip) is

module _ {L : Type 0} (over : Over L) where
  -- the outcome that is found for the test that stands next tells what comes of it
  pub next_is : (place at n : ℕ) (e : Entry) (task : TestTask) (x : Test) (o : TestOutcome) (next : Next) (c : Came) (cs : List Came)
      → slice_get over.entries.now place ≡ Some e → e.item ≡ item.Test task → slice_get over.way.now at ≡ Some n
      → slice_get over.tests.now place ≡ Some x → slice_get x.outcomes.items n ≡ Some o → next.outcome.now ≡ o
      → ((g : Gist) → next.passed ≡ (if task_goes_on task (came_by o.tested g) then 0 else e.skip))
      → StandsFrom over place at (c ∷ cs) → IsNext over place at c cs next
  next_is place at n e task x o next c cs entry test number known outcome is passes stands =
      let qs = questions_of over in
      let by = came_test is_test constant (TellsIn qs over.tests.now) goes_on skip_of over.entries.now place e over.way.now at n c cs
      entry (ap item_is_test test) number stands.came in
      let tells = by.0 in
      let one : tells.0 ≡ x = some_same tells.0 x (sym tells.1.0 ∙ known) in
      let found : slice_get x.outcomes.items n ≡ Some tells.1.1.0 = subst (λ (y : Test). slice_get y.outcomes.items n ≡ Some tells.1.1.0) one tells.1.1.1.0 in
      let this : tells.1.1.0 ≡ next.outcome.now = some_same tells.1.1.0 o (sym found ∙ outcome) ∙ sym is in
      let came : c ≡ came_of qs next.outcome.now = tells.1.1.1.1.1 ∙ ap (came_of qs) this in
      let far : next.passed ≡ passed goes_on skip_of e c =
      passes (gist_by qs o) ∙ sym (passed_there e task c (came_of qs o) test (came ∙ ap (came_of qs) is)) in
      record {
        came = came;
        within = subst (λ (p : TestOutcome). AreNumbers qs p.asked) this tells.1.1.1.1.0;
        rest = record {
          distinct = stands.distinct;
          came =
              let on : at + 1 ≡ suc at = omega arith in
              subst (λ m. CameBy is_test constant (TellsIn qs over.tests.now) goes_on skip_of (place + 1 + next.passed) 0
              (drop (place + 1 + next.passed) over.entries.now) (drop m over.way.now) cs) (sym on)
              (came_on is_test constant (TellsIn qs over.tests.now) goes_on skip_of over.entries.now place (passed goes_on skip_of e c) (place + 1 + next.passed)
              (drop (suc at) over.way.now) cs (ap (λ k. place + 1 + k) far) by.1);
        };
      }

  -- the document that is named stands next, and its question is asked before it is read
  pub named_heard : {D E : Type 0} (tree : D → Option Tree) (r : Result D E) (reference : Reference) (n : ℕ) (s t u v : JoinState)
      → slice_get (questions_of over) n ≡ Some (Ref reference) → HearsNothing s t → StaysThere s t
      → ((questions : List Question) (q : Question) → IsDistinct same_question questions → slice_get questions n ≡ Some q → HearsMore questions (gist_of (asks q ∷ [])) t u)
      → StaysThere t u → HearsNothing u v
      → IfOk r (λ d. (o : Option Tree) (cs : List Came) → Stands over u (named o ∷ cs) → (tree d ≡ o) × Stands over v cs)
      → IfOk r (λ d. (o : Option Tree) (cs : List Came) → Stands over s (named o ∷ cs) → (tree d ≡ o) × Goes over s v (gist_of (asks (Ref reference) ∷ [])) cs)
  named_heard tree (Ok d) reference n s t u v at none here asked there behind found = λ o cs stands.
      let g : Gist = gist_of (asks (Ref reference) ∷ []) in
      let by = found o cs (stands_there over t u (named o ∷ cs) there (stands_there over s t (named o ∷ cs) here stands)) in
      let more : HearsMore (questions_of over) g s u =
      hears_behind_nothing (questions_of over) g s t u none (asked (questions_of over) (Ref reference) stands.distinct at) in
      (by.0, (hears_before_nothing (questions_of over) g s u v more behind, by.1))
  named_heard tree (Err e) reference n s t u v at none here asked there behind found = tt
