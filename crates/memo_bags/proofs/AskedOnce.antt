-- What holds of each question that is asked once.
use Rattle.std.proofs.Common.{◌≡◌, Bool, true, false, List, [], ◌∷◌, ◌++◌, refl, sym, subst}
use Rattle.std.specs.Prelude.{◌||◌, if◌then◌else◌}
use Rattle.std.specs.List.{AllByRecursion}
use Rattle.ent_request.proofs.Sames.{question-Decides}
use Rattle.ent_request.specs.Questions.{asked_once, is_asked, same_question, with_question}
use Rattle.ent_request.specs.declared.question.Question.{Question}
use Rattle.memo_bags.proofs.Growing.{all_first, all_later}

-- what holds of each question that is asked once holds of each that is asked
among : (P : Question → Type 0) (questions : List Question) (x : Question) → is_asked questions x ≡ true → AllByRecursion P questions → P x
among P [] x is all = absurd (cc)
among P (q ∷ questions) x is all = by (same_question x q) refl is (λ later. among P questions x later all.1) where
  by : (b : Bool) → same_question x q ≡ b → (b || is_asked questions x) ≡ true → (is_asked questions x ≡ true → P x) → P x
  by true same h later = subst P (sym ((question-Decides x q).0 same)) all.0
  by false same h later = later h

pub all_asked : (P : Question → Type 0) (questions more : List Question) → AllByRecursion P (asked_once questions more) → AllByRecursion P questions × AllByRecursion P more
all_asked P questions [] all = (all, tt)
all_asked P questions (x ∷ more) all =
    let next = all_asked P (with_question questions x) more all in
    by (is_asked questions x) refl next.0 next.1 where
      by : (b : Bool) → is_asked questions x ≡ b → AllByRecursion P (if b then questions else questions ++ x ∷ []) → AllByRecursion P more → AllByRecursion P questions × AllByRecursion P (x ∷ more)
      by true is first later = (first, (among P questions x is first, later))
      by false is first later = (all_first P questions (x ∷ []) first, ((all_later P questions (x ∷ []) first).0, later))
