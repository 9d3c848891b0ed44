-- What is remembered stays so as questions and bags get numbers, and a case gives the answer of each request that fits it.
use Rattle.std.proofs.Common.{List, refl, ◌∙◌}
use Rattle.std.specs.List.{AllByRecursion}
use Rattle.ent_values.specs.Bags.{Contents}
use Rattle.ent_evaluator.specs.declared.case.Case.{Case}
use Rattle.ent_evaluator.specs.declared.cases.Cases.{Cases}
use Rattle.ent_evaluator.specs.declared.memory.Memory.{Memory}
use Rattle.ent_request.specs.declared.question.Question.{Question}
use Rattle.ent_request.specs.declared.readers.NamePlace.TheVariants.{Person, Action, Resource}
use Rattle.ent_request.specs.declared.request.Request.{Request}
use Rattle.ent_evaluator.specs.declared.shelf.Shelf.{Shelf}
use Rattle.ent_request.specs.Listed.{listed}
use Rattle.ent_request.specs.Looks.{Looks}
use Rattle.ent_evaluator.specs.declared.tests.PlanTests.{PlanTests}
use Rattle.ent_evaluator.specs.Held.{HaveSameDocuments}
use Rattle.ent_evaluator.specs.Memory.{AreShelves, Fits, IsCase, IsShelf, Remembers}
use Rattle.ent_evaluator.specs.Tests.{AreTests}
use Rattle.ent_request.specs.Questions.{BeginsWith}
use Rattle.memo_bags.specs.proofs_only.Ready.{Begins}
use Rattle.ent_evaluator.specs.proofs_only.Remembered.{NoneFits}
use Rattle.memo_bags.proofs.Growing.{all_map, starts_itself, starts_then}
use Rattle.memo_bags.proofs.Learning.{about_more, all_back, all_more, are_more, numbers_more, rows_more}
use Rattle.ent_evaluator.proofs.TestsKept.{tests_more}

-- ---- growth

module _ (looks : Looks) (questions more : List Question) (bags bigger : List Contents) (first : Begins more questions) (second : Begins bigger bags) where
  pub case_more : (c : Case) → IsCase looks questions bags c → IsCase looks more bigger c
  case_more c is =
      let numbers = numbers_more looks questions more bags bigger first second c.asked is.within in
      record {
        findings = are_more looks questions more bags bigger first second c.found is.findings;
        within = numbers.0;
        answer = λ t same person action resource fits. is.answer t same person action resource (all_back t questions more bags bigger first second (listed person action resource) c.found is.findings fits);
        asked = λ t same person action resource fits. numbers.1 ∙ is.asked t same person action resource (all_back t questions more bags bigger first second (listed person action resource) c.found is.findings fits);
        failed = λ t same person action resource fits. is.failed t same person action resource (all_back t questions more bags bigger first second (listed person action resource) c.found is.findings fits);
      }

  pub cases_more : (cases : List Case) → AllByRecursion (IsCase looks questions bags) cases → AllByRecursion (IsCase looks more bigger) cases
  cases_more cases all = all_map (IsCase looks questions bags) (IsCase looks more bigger) case_more cases all

  pub none_more : (request : Request) (cases : List Case) → NoneFits looks more bigger request cases → NoneFits looks questions bags request cases
  none_more request cases all = all_map (λ c. Fits looks more bigger request c → ⊥) (λ c. Fits looks questions bags request c → ⊥) (λ c no fits. no (all_more looks questions more bags bigger first second request c.found fits)) cases all

  pub shelf_more : (shelf : Shelf) → IsShelf looks questions bags shelf → IsShelf looks more bigger shelf
  shelf_more shelf is = record {
    cases = cases_more shelf.cases.items is.cases;
    few = is.few;
    index = record { asks = λ n k asked. about_more looks questions more bags bigger first second k.question k.place (is.index.asks n k asked); led = is.index.led; leads = is.index.leads };
  }

  pub shelves_more : (cases : Cases) → AreShelves looks questions bags cases → AreShelves looks more bigger cases
  shelves_more cases are = record { older = shelf_more cases.older are.older; latest = shelf_more cases.latest are.latest }

-- ---- where values alone are others

documents_then : (s t u : Looks) → HaveSameDocuments s t → HaveSameDocuments t u → HaveSameDocuments s u
documents_then s t u first second = record {
  root = second.root ∙ first.root;
  documents = λ reference. second.documents reference ∙ first.documents reference;
  date = second.date ∙ first.date;
  time = second.time ∙ first.time;
  date_time = second.date_time ∙ first.date_time;
}

module _ (looks other : Looks) (same : HaveSameDocuments looks other) (questions : List Question) (bags : List Contents) where
  case_still : (c : Case) → IsCase looks questions bags c → IsCase other questions bags c
  case_still c is = record {
    findings = is.findings;
    within = is.within;
    answer = λ t next person action resource fits. is.answer t (documents_then looks other t same next) person action resource fits;
    asked = λ t next person action resource fits. is.asked t (documents_then looks other t same next) person action resource fits;
    failed = λ t next person action resource fits. is.failed t (documents_then looks other t same next) person action resource fits;
  }

  shelf_still : (shelf : Shelf) → IsShelf looks questions bags shelf → IsShelf other questions bags shelf
  shelf_still shelf is = record { cases = all_map (IsCase looks questions bags) (IsCase other questions bags) case_still shelf.cases.items is.cases; few = is.few; index = is.index }

  pub shelves_still : (cases : Cases) → AreShelves looks questions bags cases → AreShelves other questions bags cases
  shelves_still cases are = record { older = shelf_still cases.older are.older; latest = shelf_still cases.latest are.latest }

-- what is remembered stays so as more questions get numbers
pub remembers_more : (looks : Looks) (questions more : List Question) (memory : Memory) → BeginsWith more questions → Remembers looks questions memory → Remembers looks more memory
remembers_more looks questions more memory begins has =
    let bags = memory.findings.bags in
    let same : Begins bags bags = starts_itself bags bags refl in
    record {
      findings = record {
        distinct = has.findings.distinct;
        people = rows_more looks questions more bags bags begins same Person memory.findings.people has.findings.people;
        actions = rows_more looks questions more bags bags begins same Action memory.findings.actions has.findings.actions;
        resources = rows_more looks questions more bags bags begins same Resource memory.findings.resources has.findings.resources;
      };
      cases = shelves_more looks questions more bags bags begins same memory.cases has.cases;
      tests = tests_more questions more bags bags begins same memory.tests looks has.tests;
    }

-- and where what is known of tests is counted otherwise
pub remembers_tests : (looks : Looks) (questions : List Question) (old : Memory) (t : PlanTests) → AreTests looks questions old.findings.bags t → Remembers looks questions old
    → Remembers looks questions (record { findings = old.findings; cases = old.cases; front = old.front; tests = t })
remembers_tests looks questions old t are has = record { findings = has.findings; cases = has.cases; tests = are }

-- questions that have numbers keep them, over two steps
pub begins_then : (first second third : List Question) → BeginsWith second first → BeginsWith third second → BeginsWith third first
begins_then first second third one two = starts_then first second third one two
