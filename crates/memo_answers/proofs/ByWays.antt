-- What cases tell by their ways, whatever tells what came of tests.
use Rattle.std.proofs.Common.{◌≡◌, ℕ, List, [], ◌++◌, refl, sym, ap, ◌∙◌}
use Rattle.ent_request.specs.Looks.{Looks}
use Rattle.ent_request.specs.Questions.{AreNumbers}
use Rattle.ent_request.specs.declared.question.Question.{Question}
use Rattle.ent_walk.specs.Answer.{answer_part}
use Rattle.memo_plan.specs.Heard.{Came, heard}
use Rattle.memo_plan.proofs.HeardAlike.{heard_alike}
use Rattle.memo_bags.proofs.Growing.{starts_itself}
use Rattle.memo_bags.proofs.Learning.{numbers_more}
use Rattle.memo_plan.specs.Plan.{Fits, IsPlan, Scene, constant, goes_on, is_test, skip_of}
use Rattle.memo_plan.specs.declared.task.Entry.{Entry}
use Rattle.memo_plan.proofs.Ways.{way_still, way_tells_once}
use Rattle.memo_answers.specs.Told.{IsTold, Signs, comes_of, heard_case}
use Rattle.memo_answers.specs.declared.told.ToldAnswer.{ToldAnswer}

-- a number of a test tells one thing
abbrev pub TellsOnce : (ℕ → ℕ → Came → Type 0) → Type 0
TellsOnce tells = (place n : ℕ) (c d : Came) → tells place n c → tells place n d → c ≡ d

pub answers_told : (looks : Looks) (questions : List Question) (entries : List Entry) (tells : ℕ → ℕ → Came → Type 0) (c : ToldAnswer) (w : Scene)
    → IsPlan looks entries → w.looks.root ≡ looks.root → Fits entries w.looks → Signs entries tells c.way (comes_of entries w)
    → AreNumbers questions c.asked → heard (answer_part w.looks w.request) ≡ heard_case questions c → IsTold looks questions entries tells c
answers_told looks questions entries tells c w plan root fits signs within same = record {
  within = within;
  came = comes_of entries w;
  signed = signs;
  told = λ u its_root its_fits comes.
      heard_alike w.looks u.looks w.request u.request (its_root ∙ sym root)
      (sym (plan.lists u its_root its_fits) ∙ comes ∙ plan.lists w root fits)
      ∙ same;
}

pub cases_told : (looks : Looks) (questions : List Question) (entries : List Entry) (tells : ℕ → ℕ → Came → Type 0) (c : ToldAnswer) (w : Scene)
    → IsTold looks questions entries tells c → TellsOnce tells → w.looks.root ≡ looks.root → Fits entries w.looks → Signs entries tells c.way (comes_of entries w)
    → heard (answer_part w.looks w.request) ≡ heard_case questions c
cases_told looks questions entries tells c w is once root fits signs =
    is.told w root fits (way_tells_once is_test constant tells goes_on skip_of once 0 0 entries c.way (comes_of entries w) is.came signs is.signed)

pub stay_told : (looks other : Looks) (questions more : List Question) (entries : List Entry) (tells still : ℕ → ℕ → Came → Type 0) (c : ToldAnswer)
    → other.root ≡ looks.root → (later : List Question) × (more ≡ questions ++ later) → ((place n : ℕ) (came : Came) → tells place n came → still place n came)
    → IsTold looks questions entries tells c → IsTold other more entries still c
stay_told looks other questions more entries tells still c root later grows is =
    let numbers = numbers_more looks questions more [] [] later (starts_itself [] [] refl) c.asked is.within in
    record {
      within = numbers.0;
      came = is.came;
      signed = way_still is_test constant tells goes_on skip_of still grows 0 0 entries c.way is.came is.signed;
      told = λ w its_root fits comes.
          is.told w (its_root ∙ root) fits comes
          ∙ ap (λ qs. record { value = c.answer; gist = record { questions = qs; failed = c.failed } }) (sym numbers.1);
    }
