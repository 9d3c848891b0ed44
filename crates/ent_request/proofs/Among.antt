-- Questions that are among others.
use Rattle.std.proofs.Common.{◌≡◌, ℕ, zero, suc, Bool, true, false, List, [], ◌∷◌, ◌++◌, Some, refl, sym, ap, ◌∙◌}
use Rattle.std.specs.Prelude.{◌||◌, if◌then◌else◌}
use Rattle.std.specs.List.{list_any, slice_get}
use Rattle.std.proofs.lemmas.List.Folds.{list_any-append}
use Rattle.ent_request.specs.declared.question.Question.{Question}
use Rattle.ent_request.specs.Questions.{is_asked, same_question, with_question}
use Rattle.ent_request.proofs.Sames.{question-Decides}

pub same_itself : (question : Question) → same_question question question ≡ true
same_itself question = (question-Decides question question).1 refl

pub asked_at : (questions : List Question) (question : Question) (b : Bool) → is_asked questions question ≡ b → is_asked (if b then questions else questions ++ question ∷ []) question ≡ true
asked_at questions question true is = is
asked_at questions question false is =
    list_any-append (same_question question) questions (question ∷ []) ∙ ap (λ b. b || (same_question question question || false)) is
    ∙ ap (λ b. b || false) (same_itself question)

pub asked_now : (questions : List Question) (question : Question) → is_asked (with_question questions question) question ≡ true
asked_now questions question = asked_at questions question (is_asked questions question) refl

pub asked_still : (questions : List Question) (question more : Question) (b : Bool) → is_asked questions question ≡ true → is_asked (if b then questions else questions ++ more ∷ []) question ≡ true
asked_still questions question more true there = there
asked_still questions question more false there =
    list_any-append (same_question question) questions (more ∷ []) ∙ ap (λ b. b || list_any (same_question question) (more ∷ [])) there

-- a question that stands at some place is among them
pub asked_there : (questions : List Question) (place : ℕ) (question : Question) → slice_get questions place ≡ Some question → is_asked questions question ≡ true
asked_there [] place question is = absurd (cc)
asked_there (q ∷ questions) zero question is = ap (λ b. b || is_asked questions question) ((question-Decides question q).1 (sym (the_same q question is))) where
  the_same : (x y : Question) → Some x ≡ Some y → x ≡ y
  the_same x y e = cc
asked_there (q ∷ questions) (suc place) question is = or_later (same_question question q) (asked_there questions place question is) where
  or_later : {c : Bool} (b : Bool) → c ≡ true → (b || c) ≡ true
  or_later true later = refl
  or_later false later = later
