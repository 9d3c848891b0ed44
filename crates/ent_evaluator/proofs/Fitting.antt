-- Whether a request finds the same as a case, and which case an evaluation makes.
use Rattle.std.proofs.Common.{◌≡◌, ℕ, List, [], Result, Ok, Err, refl, sym, ap, subst, ◌∙◌}
use Rattle.std.specs.Prelude.{IfOk}
use Rattle.std.specs.List.{AllByRecursion}
use Rattle.ent_values.specs.Bags.{Contents}
use Rattle.ent_evaluator.specs.declared.case.Case.{Case}
use Rattle.ent_evaluator.specs.declared.cases.Cases.{Cases}
use Rattle.memo_bags.specs.declared.findings.Findings.{Findings}
use Rattle.ent_evaluator.specs.declared.front.Front.{Front}
use Rattle.ent_evaluator.specs.declared.memory.Memory.{Memory}
use Rattle.ent_eval.specs.declared.pdp.ListedEvaluation.{ListedEvaluation}
use Rattle.ent_request.specs.declared.question.Question.{Question}
use Rattle.ent_request.specs.declared.question.Question.TheVariants as question
use Rattle.ent_request.specs.declared.request.Request.{Request}
use Rattle.memo_bags.specs.declared.scene.Scene.{Scene}
use Rattle.ent_walk.specs.Answer.{answer, asked, causes, has_cause, recorded}
use Rattle.ent_walk.specs.Law.{FindsSame}
use Rattle.ent_request.specs.Listed.{listed}
use Rattle.ent_request.specs.Looks.{Looks}
use Rattle.ent_request.specs.Causes.{are_any}
use Rattle.ent_evaluator.specs.Held.{HaveSameDocuments}
use Rattle.memo_bags.specs.Findings.{AreFindings, IsFinding}
use Rattle.memo_bags.specs.Found.{IsAttribute}
use Rattle.ent_evaluator.specs.Memory.{Fits, Gives, HasCase, IsCase, IsKnown, IsShelf, Remembers, cases_in}
use Rattle.ent_request.specs.Questions.{AreNumbers, asked_once, at_numbers, keys_at}
use Rattle.memo_bags.specs.proofs_only.Ready.{Begins, TellsAttributes, request_of}
use Rattle.ent_evaluator.specs.proofs_only.Remembered.{NoneFits}
use Rattle.ent_walk.proofs.AnswersRest.{findings-rest}
use Rattle.ent_request.proofs.Lists.{all_append, from_recursion}
use Rattle.memo_bags.proofs.AskedOnce.{all_asked}
use Rattle.memo_bags.proofs.Growing.{all_map, starts_itself}
use Rattle.ent_walk.proofs.Recorded.{recorded_by}
use Rattle.ent_request.proofs.Numbering.{all_at}
use Rattle.ent_evaluator.proofs.Remembering.{shelves_more}
use Rattle.ent_evaluator.proofs.TestsKept.{tests_more}

-- ---- a case

same_documents : (looks : Looks) → HaveSameDocuments looks looks
same_documents looks = record { root = refl; documents = λ reference. refl; date = refl; time = refl; date_time = refl }

same_found : (looks t : Looks) (q r : Request) → HaveSameDocuments looks t → (x : Question) → (IsAttribute x → FindsSame looks q t r x) → FindsSame looks q t r x
same_found looks t q r same question.Root attribute = sym same.root
same_found looks t q r same (question.Ref reference) attribute = sym (same.documents reference)
same_found looks t q r same (question.Of a) attribute = attribute tt

pub is_case : {L : Type 0} (looks : Looks) (scene : Scene L) (bags : List Contents) (c : Case) → AllByRecursion (IsFinding scene.questions.now bags) c.found → AreNumbers scene.questions.now c.asked
    → c.answer ≡ answer looks (request_of scene) → at_numbers scene.questions.now c.asked ≡ asked_once [] (asked looks (request_of scene))
    → c.failed ≡ has_cause looks (request_of scene) → TellsAttributes looks scene.questions.now bags (request_of scene) c.asked c.found → IsCase looks scene.questions.now bags c
is_case looks scene bags c are within answered asks fails tells = record {
  findings = are;
  within = within;
  answer = λ t same person action resource fits. (law t same person action resource fits).0 ∙ sym answered;
  asked = λ t same person action resource fits. asks ∙ ap (asked_once []) (sym (law t same person action resource fits).1.0);
  failed = λ t same person action resource fits. ap are_any (law t same person action resource fits).1.1 ∙ sym fails;
} where
  law : (t : Looks) → HaveSameDocuments looks t → (person action resource : List ℕ) → Fits t scene.questions.now bags (listed person action resource) c
      → (answer t (listed person action resource) ≡ answer looks (request_of scene))
      × ((asked t (listed person action resource) ≡ asked looks (request_of scene)) × (causes t (listed person action resource) ≡ causes looks (request_of scene)))
  law t same person action resource fits =
      let other = listed person action resource in
      let P : Question → Type 0 = FindsSame looks (request_of scene) t other in
      let each : AllByRecursion P (at_numbers scene.questions.now c.asked) =
      all_map (λ x. IsAttribute x → P x) P (same_found looks t (request_of scene) other same) (at_numbers scene.questions.now c.asked)
      (tells t (same.date, (same.time, same.date_time)) person action resource fits) in
      let all : AllByRecursion P (asked_once [] (asked looks (request_of scene))) = subst (AllByRecursion P) asks each in
      findings-rest looks t (request_of scene) other (from_recursion P (asked looks (request_of scene)) (all_asked P [] (asked looks (request_of scene)) all).1)

-- ---- what is remembered then

pub recalls : (looks : Looks) (questions : List Question) (old : Memory) (findings : Findings) (cases : Cases) (front : Front) → Remembers looks questions old → AreFindings looks questions findings
    → Begins findings.bags old.findings.bags → cases.older ≡ old.cases.older → cases.latest ≡ old.cases.latest
    → Remembers looks questions (record { findings = findings; cases = cases; front = front; tests = old.tests })
recalls looks questions old findings cases front has are begins older latest =
    let same = starts_itself questions questions refl in
    let more = shelves_more looks questions questions old.findings.bags findings.bags same begins old.cases has.cases in
    record {
      findings = are;
      cases = record { older = subst (IsShelf looks questions findings.bags) (sym older) more.older; latest = subst (IsShelf looks questions findings.bags) (sym latest) more.latest };
      tests = tests_more questions questions old.findings.bags findings.bags same begins old.tests looks has.tests;
    }

-- ---- what a case that fits says

pub none_known : (looks : Looks) (questions : List Question) (memory : Memory) (request : Request) → NoneFits looks questions memory.findings.bags request (cases_in memory.cases)
    → IsKnown looks questions memory request → ⊥
none_known looks questions memory request none known =
    all_at (λ c. Fits looks questions memory.findings.bags request c → ⊥) (cases_in memory.cases) known.0 known.1.0 none known.1.1.0 known.1.1.1.0

module _ (looks : Looks) (questions : List Question) (memory : Memory) (person action resource : List ℕ) (e : ListedEvaluation) (has : Remembers looks questions memory)
    (found : HasCase looks questions memory (listed person action resource) (Gives e)) where
  its_case : IsCase looks questions memory.findings.bags found.1.0
  its_case =
      all_at (IsCase looks questions memory.findings.bags) (cases_in memory.cases) found.0 found.1.0
      (all_append (IsCase looks questions memory.findings.bags) memory.cases.older.cases.items memory.cases.latest.cases.items has.cases.older.cases has.cases.latest.cases) found.1.1.0

  pub case_answer : e.answer ≡ answer looks (listed person action resource)
  case_answer = sym found.1.1.1.1.0 ∙ sym (its_case.answer looks (same_documents looks) person action resource found.1.1.1.0)

  pub case_asked : at_numbers questions e.asked ≡ asked_once [] (asked looks (listed person action resource))
  case_asked = ap (at_numbers questions) (sym found.1.1.1.1.1.0) ∙ its_case.asked looks (same_documents looks) person action resource found.1.1.1.0

  pub case_failed : e.failed ≡ has_cause looks (listed person action resource)
  case_failed = sym found.1.1.1.1.1.1 ∙ sym (its_case.failed looks (same_documents looks) person action resource found.1.1.1.0)

  pub case_within : AreNumbers questions e.asked
  case_within = subst (AreNumbers questions) found.1.1.1.1.1.0 its_case.within

  pub case_reads : keys_at (listed person action resource) (at_numbers questions e.asked) ≡ recorded looks (listed person action resource)
  case_reads = recorded_by looks (listed person action resource) (at_numbers questions e.asked) case_asked

-- the keys that are looked up for the questions of an evaluation are those that are recorded
pub reads_by : {E : Type 0} (r : Result ListedEvaluation E) (looks : Looks) (request : Request) (questions : List Question)
    → IfOk r (λ e. at_numbers questions e.asked ≡ asked_once [] (asked looks request)) → IfOk r (λ e. keys_at request (at_numbers questions e.asked) ≡ recorded looks request)
reads_by (Err e) looks request questions h = tt
reads_by (Ok e) looks request questions h = recorded_by looks request (at_numbers questions e.asked) h
