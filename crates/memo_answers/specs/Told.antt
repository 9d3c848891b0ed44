-- Cases by what came of tests.
use Rattle.std.specs.Prelude.{◌≡◌, ◌++◌, ◌⊎◌, ℕ, List, Some, slice_get}
use Rattle.ent_request.specs.Looks.{Looks}
use Rattle.ent_request.specs.Questions.{AreNumbers, at_numbers}
use Rattle.ent_request.specs.declared.answer.Answer.{Answer}
use Rattle.ent_request.specs.declared.question.Question.{Question}
use Rattle.ent_walk.specs.Answer.{answer_part}
use Rattle.memo_plan.specs.Heard.{Came, Heard, heard}
use Rattle.memo_plan.specs.Plan.{Fits, IsPlan, Scene, constant, entry_came, goes_on, is_test, skip_of}
use Rattle.memo_plan.specs.Run.{CameBy, run}
use Rattle.memo_plan.specs.declared.task.Entry.{Entry}
use Rattle.memo_tests.specs.declared.test.Test.{Test}
use Rattle.memo_answers.specs.Known.{TellsIn}
use Rattle.memo_answers.specs.declared.told.ToldAnswer.{ToldAnswer}

-- what comes of the tests of entries
abbrev pub comes_of : List Entry → Scene → List Came
comes_of entries w = run entry_came goes_on skip_of 0 entries w

-- a way tells this of the tests of entries, where a number of a test at a place tells what came of it
abbrev pub Signs : List Entry → (ℕ → ℕ → Came → Type 0) → List ℕ → List Came → Type 0
Signs entries tells way came = CameBy is_test constant tells goes_on skip_of 0 0 entries way came

-- what is heard of an answer by a case, over the questions that have a number
abbrev pub heard_case : List Question → ToldAnswer → Heard Answer
heard_case questions c = record { value = c.answer; gist = record { questions = at_numbers questions c.asked; failed = c.failed } }

-- over this root, and where each reference names an equal document, this is heard of an answer
abbrev pub IsHeard : Looks → List Entry → List Came → Heard Answer → Type 0
IsHeard looks entries came h = (w : Scene) → w.looks.root ≡ looks.root → Fits entries w.looks → comes_of entries w ≡ came → heard (answer_part w.looks w.request) ≡ h

-- the way of a case tells what came of tests, and wherever the same comes of them this is heard of the answer
pub record IsTold (looks : Looks) (questions : List Question) (entries : List Entry) (tells : ℕ → ℕ → Came → Type 0) (c : ToldAnswer) : Type 0 where
  pub within : AreNumbers questions c.asked
  pub came : List Came
  pub signed : Signs entries tells c.way came
  pub told : IsHeard looks entries came (heard_case questions c)

-- what is heard of an answer, whose tests a way signs, is a case by that way
abbrev pub AnswersAreTold : Type 0
AnswersAreTold = (looks : Looks) (questions : List Question) (entries : List Entry) (tests : List Test) (c : ToldAnswer) (w : Scene)
    → IsPlan looks entries → w.looks.root ≡ looks.root → Fits entries w.looks → Signs entries (TellsIn questions tests) c.way (comes_of entries w)
    → AreNumbers questions c.asked → heard (answer_part w.looks w.request) ≡ heard_case questions c → IsTold looks questions entries (TellsIn questions tests) c

-- where its way signs the tests of another, over the same root and documents, the same is heard of that answer
abbrev pub CasesTell : Type 0
CasesTell = (looks : Looks) (questions : List Question) (entries : List Entry) (tests : List Test) (c : ToldAnswer) (w : Scene)
    → IsTold looks questions entries (TellsIn questions tests) c → w.looks.root ≡ looks.root → Fits entries w.looks
    → Signs entries (TellsIn questions tests) c.way (comes_of entries w) → heard (answer_part w.looks w.request) ≡ heard_case questions c

-- it stays one as questions get numbers and outcomes are learnt, whatever else is held over that root
abbrev pub CasesStayTold : Type 0
CasesStayTold = (looks other : Looks) (questions more : List Question) (entries : List Entry) (tests later : List Test) (c : ToldAnswer)
    → other.root ≡ looks.root → (behind : List Question) × (more ≡ questions ++ behind)
    → ((place n : ℕ) (came : Came) → TellsIn questions tests place n came → TellsIn more later place n came)
    → IsTold looks questions entries (TellsIn questions tests) c → IsTold other more entries (TellsIn more later) c

-- a case of this way is among others
abbrev pub HasWay : List ToldAnswer → List ℕ → ToldAnswer → Type 0
HasWay cases way c = (place : ℕ) × ((slice_get cases place ≡ Some c) × (c.way ≡ way))

-- each case that is there now is this one, or was there before
abbrev pub IsPut : ToldAnswer → List ToldAnswer → List ToldAnswer → Type 0
IsPut c old new = (place : ℕ) (d : ToldAnswer) → slice_get new place ≡ Some d → (d ≡ c) ⊎ ((at : ℕ) × (slice_get old at ≡ Some d))

-- each case that is there now was there before
abbrev pub AreAmong : List ToldAnswer → List ToldAnswer → Type 0
AreAmong old new = (place : ℕ) (d : ToldAnswer) → slice_get new place ≡ Some d → (at : ℕ) × (slice_get old at ≡ Some d)
