-- Questions that get numbers among others, one after another.
use Rattle.std.proofs.Common.{◌≡◌, ℕ, ◌+◌, ◌<◌, ◌≤◌, Bool, true, false, List, [], ◌∷◌, ◌++◌, length, get_or, take, slice_get, cond, Some, None, nat_lt, refl, sym, ap, ◌∙◌, subst}
use Rattle.std.specs.Prelude.{if◌then◌else◌}
use Rattle.std.specs.List.{position_or_len}
use Rattle.std.proofs.lemmas.List.{append-nil, append_assoc, get_or_default, map-append, take_more, take_all}
use Rattle.std.proofs.lemmas.Bool.Decides.{Decides-ltb}
use Rattle.std.proofs.lemmas.List.Sums.{passes_at_first}
use Rattle.std.proofs.lemmas.Option.{get_or_from_slice_get, slice_get-get_or, slice_get_within}
use Rattle.ent_request.specs.declared.question.Question.{Question}
use Rattle.ent_request.specs.declared.question.Question.TheVariants.{Root}
use Rattle.ent_request.specs.Questions.{AreNumbers, BeginsWith, at_numbers, is_asked, number_of, same_question, with_question}
use Rattle.ent_request.proofs.Among.{asked_there}
use Rattle.ent_request.proofs.Numbering.{all_at, all_more, grown}
use Rattle.ent_request.proofs.Sames.{question-Decides}

pub equal_questions : (a b : Question) → same_question a b ≡ true → a ≡ b
equal_questions a b h = (question-Decides a b).0 h

-- ---- where a question is found

same_number : (m n : ℕ) → Some m ≡ Some n → m ≡ n
same_number m n e = cc

pub found_at : (questions : List Question) (q : Question) (n : ℕ) → number_of questions q ≡ Some n → slice_get questions n ≡ Some q
found_at questions q n is = by (nat_lt first (length questions)) refl is where
  first : ℕ
  first = position_or_len (same_question q) questions

  by : (b : Bool) → nat_lt first (length questions) ≡ b → cond b (Some first) None ≡ Some n → slice_get questions n ≡ Some q
  by false e h = absurd (cc)
  by true e h =
      let within : first < length questions = (Decides-ltb first (length questions)).0 e in
      let same : q ≡ get_or questions first Root = equal_questions q (get_or questions first Root) (passes_at_first (same_question q) questions Root within) in
      ap (slice_get questions) (sym (same_number first n h)) ∙ slice_get-get_or questions first Root within ∙ ap Some (sym same)

-- ---- questions behind which others stand

pub begins_itself : (questions : List Question) → BeginsWith questions questions
begins_itself questions = ([], sym (append-nil questions))

pub begins_same : (questions next first : List Question) → next ≡ questions → BeginsWith questions first → BeginsWith next first
begins_same questions next first is begins = (begins.0, is ∙ begins.1)

pub begins_more : (questions next first : List Question) (q : Question) → next ≡ with_question questions q → BeginsWith questions first → BeginsWith next first
begins_more questions next first q is begins = by (is_asked questions q) is where
  by : (b : Bool) → next ≡ (if b then questions else questions ++ q ∷ []) → BeginsWith next first
  by true e = (begins.0, e ∙ begins.1)
  by false e = (begins.0 ++ q ∷ [], e ∙ ap (λ qs. qs ++ q ∷ []) begins.1 ∙ append_assoc first begins.0 (q ∷ []))

-- a question that has a number is there already
pub with_there : (questions : List Question) (n : ℕ) (q : Question) → slice_get questions n ≡ Some q → questions ≡ with_question questions q
with_there questions n q at = ap (λ b. if b then questions else questions ++ q ∷ []) (sym (asked_there questions n q at))

-- ---- the loop: so far those before the next one have numbers

pub record AreGiven (sought : List Question) (numbers : List ℕ) (i : ℕ) (old new : List Question) (given : List ℕ) : Type 0 where
  pub asked : at_numbers new given ≡ at_numbers sought (take i numbers)
  pub within : AreNumbers new given
  pub begins : BeginsWith new old

pub given_none : (asked : List Question) (numbers : List ℕ) (old : List Question) (given : List ℕ) → given ≡ [] → AreGiven asked numbers 0 old old given
given_none asked numbers old given is = record {
  asked = ap (at_numbers old) is;
  within = subst (AreNumbers old) (sym is) tt;
  begins = begins_itself old;
}

pub given_more : (asked : List Question) (numbers : List ℕ) (i : ℕ) (old new next : List Question) (given more : List ℕ) (q : Question) (n : ℕ) → AreNumbers asked numbers → i < length numbers
    → q ≡ get_or asked (get_or numbers i 0) q → next ≡ with_question new q → slice_get next n ≡ Some q → more ≡ given ++ n ∷ [] → AreGiven asked numbers i old new given → AreGiven asked numbers (i + 1) old next more
given_more asked numbers i old new next given more q n are below read is at pushed so_far =
    let x : ℕ = get_or numbers i 0 in
    let here : x < length asked = all_at (λ m. m < length asked) numbers i x are (slice_get-get_or numbers i 0 below) in
    let kept = grown new q given so_far.within in
    let same : at_numbers next given ≡ at_numbers asked (take i numbers) = ap (λ qs. at_numbers qs given) is ∙ kept.1 ∙ so_far.asked in
    let this : get_or next n Root ≡ get_or asked x Root = get_or_from_slice_get next n q Root at ∙ read ∙ get_or_default asked x q Root here in
    record {
      asked = ap (at_numbers next) pushed ∙ map-append (λ m. get_or next m Root) given (n ∷ []) ∙ ap (λ qs. qs ++ get_or next n Root ∷ []) same ∙ ap (λ p. at_numbers asked (take i numbers) ++ p ∷ []) this
          ∙ sym (map-append (λ m. get_or asked m Root) (take i numbers) (x ∷ [])) ∙ ap (at_numbers asked) (sym (take_more numbers i 0 below));
      within = subst (AreNumbers next) (sym pushed) (all_more (λ m. m < length next) given n (subst (λ qs. AreNumbers qs given) (sym is) kept.0) (slice_get_within next n q at));
      begins = begins_more new next old q is so_far.begins;
    }

pub given_all : (asked : List Question) (numbers : List ℕ) (i : ℕ) (old new : List Question) (given : List ℕ) → length numbers ≤ i → AreGiven asked numbers i old new given → at_numbers new given ≡ at_numbers asked numbers
given_all asked numbers i old new given past so_far = so_far.asked ∙ ap (at_numbers asked) (take_all i numbers past)
