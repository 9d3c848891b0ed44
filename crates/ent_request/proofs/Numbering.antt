-- Questions that are kept as numbers: one more number is one more question.
use Rattle.std.proofs.Common.{◌≡◌, ℕ, zero, suc, ◌+◌, ◌<◌, Bool, true, false, List, [], ◌∷◌, ◌++◌, length, get_or, slice_get, Some, refl, sym, ap, ◌∙◌, subst, arith}
use Rattle.std.specs.Prelude.{◌||◌, eqb, if◌then◌else◌}
use Rattle.std.specs.List.{AllByRecursion, IsDistinct, list_any}
use Rattle.std.proofs.Math.ListN.{get_or-append}
use Rattle.std.proofs.lemmas.Bool.Decides.{Decides-eqb}
use Rattle.std.proofs.lemmas.List.{length-append, map-append}
use Rattle.std.proofs.lemmas.Option.{get_or_from_slice_get, slice_get-get_or, slice_get_within}
use Rattle.indexmap.specs.IndexSet.{insert_key}
use Rattle.ent_request.specs.declared.question.Question.{Question}
use Rattle.ent_request.specs.declared.question.Question.TheVariants.{Root}
use Rattle.ent_request.specs.Questions.{is_asked, same_question, with_question}
use Rattle.ent_request.specs.proofs_only.Numbering.{IsNumbering, at_numbers}
use Rattle.ent_request.proofs.Among.{same_itself}
use Rattle.ent_request.proofs.Sames.{question-Decides}

-- ---- a question stands at one place alone

pub all_at : {A : Type 0} (P : A → Type 0) (xs : List A) (i : ℕ) (x : A) → AllByRecursion P xs → slice_get xs i ≡ Some x → P x
all_at P [] i x all is = absurd (cc)
all_at P (y ∷ ys) zero x all is = subst P (the_same y x is) all.0 where
  the_same : {A : Type 0} (x y : A) → Some x ≡ Some y → x ≡ y
  the_same x y e = cc
all_at P (y ∷ ys) (suc i) x all is = all_at P ys i x all.1 is

same_some : {A : Type 0} (x y : A) → Some x ≡ Some y → x ≡ y
same_some x y e = cc

not_later : (x : Question) (questions : List Question) (n : ℕ) (q : Question) → AllByRecursion (λ y. same_question x y ≡ false) questions → x ≡ q → slice_get questions n ≡ Some q → ⊥
not_later x questions n q differ same at =
    let no : same_question x q ≡ false = all_at (λ y. same_question x y ≡ false) questions n q differ at in
    let yes : same_question x q ≡ true = ap (same_question x) (sym same) ∙ same_itself x in
    absurd (cc)

same_place : (questions : List Question) (m n : ℕ) (q : Question) → IsDistinct same_question questions → slice_get questions m ≡ Some q → slice_get questions n ≡ Some q → m ≡ n
unfolding IsDistinct
same_place [] m n q distinct first second = absurd (cc)
same_place (x ∷ xs) zero zero q distinct first second = refl
same_place (x ∷ xs) zero (suc n) q distinct first second = absurd (not_later x xs n q distinct.0 (same_some x q first) second)
same_place (x ∷ xs) (suc m) zero q distinct first second = absurd (not_later x xs m q distinct.0 (same_some x q second) first)
same_place (x ∷ xs) (suc m) (suc n) q distinct first second = ap suc (same_place xs m n q distinct.1 first second)

-- ---- a number is there where its question is

module _ (questions : List Question) (n : ℕ) (q : Question) (distinct : IsDistinct same_question questions) (at : slice_get questions n ≡ Some q) where
  one_there : (m : ℕ) → m < length questions → eqb n m ≡ same_question q (get_or questions m Root)
  one_there m within = by (eqb n m) (same_question q (get_or questions m Root)) refl refl where
    by : (b c : Bool) → eqb n m ≡ b → same_question q (get_or questions m Root) ≡ c → b ≡ c
    by true true is same = refl
    by false false is same = refl
    by true false is same =
        let number : n ≡ m = (Decides-eqb n m).0 is in
        let found : get_or questions m Root ≡ q = ap (λ k. get_or questions k Root) (sym number) ∙ get_or_from_slice_get questions n q Root at in
        let yes : same_question q (get_or questions m Root) ≡ true = ap (same_question q) found ∙ same_itself q in
        absurd (cc)
    by false true is same =
        let question : q ≡ get_or questions m Root = (question-Decides q (get_or questions m Root)).0 same in
        let number : n ≡ m = same_place questions n m q distinct at (slice_get-get_or questions m Root within ∙ ap Some (sym question)) in
        let yes : eqb n m ≡ true = (Decides-eqb n m).1 number in
        absurd (cc)

  pub number_there : (numbers : List ℕ) → AllByRecursion (λ m. m < length questions) numbers → list_any (eqb n) numbers ≡ is_asked (at_numbers questions numbers) q
  number_there [] within = refl
  number_there (m ∷ numbers) within =
      ap (λ b. b || list_any (eqb n) numbers) (one_there m within.0) ∙ ap (λ b. same_question q (get_or questions m Root) || b) (number_there numbers within.1)

  -- one more number is one more question
  pub one_more : (numbers : List ℕ) → AllByRecursion (λ m. m < length questions) numbers → at_numbers questions (insert_key eqb numbers n) ≡ with_question (at_numbers questions numbers) q
  one_more numbers within = by (list_any (eqb n) numbers) (number_there numbers within) where
    by : (b : Bool) → b ≡ is_asked (at_numbers questions numbers) q
        → at_numbers questions (if b then numbers else numbers ++ n ∷ []) ≡ (if is_asked (at_numbers questions numbers) q then at_numbers questions numbers else at_numbers questions numbers ++ q ∷ [])
    by true is = ap (λ c. if c then at_numbers questions numbers else at_numbers questions numbers ++ q ∷ []) is
    by false is =
        map-append (λ m. get_or questions m Root) numbers (n ∷ []) ∙ ap (λ x. at_numbers questions numbers ++ x ∷ []) (get_or_from_slice_get questions n q Root at)
        ∙ ap (λ c. if c then at_numbers questions numbers else at_numbers questions numbers ++ q ∷ []) is

-- ---- the numbers stay those of questions

pub all_more : {A : Type 0} (P : A → Type 0) (xs : List A) (x : A) → AllByRecursion P xs → P x → AllByRecursion P (xs ++ x ∷ [])
all_more P [] x all h = (h, tt)
all_more P (y ∷ ys) x all h = (all.0, all_more P ys x all.1 h)

all_weaker : {A : Type 0} (P Q : A → Type 0) → ((x : A) → P x → Q x) → (xs : List A) → AllByRecursion P xs → AllByRecursion Q xs
all_weaker P Q weaker [] all = tt
all_weaker P Q weaker (x ∷ xs) all = (weaker x all.0, all_weaker P Q weaker xs all.1)

within_more : (questions : List Question) (numbers : List ℕ) (n : ℕ) → n < length questions → AllByRecursion (λ m. m < length questions) numbers
    → AllByRecursion (λ m. m < length questions) (insert_key eqb numbers n)
within_more questions numbers n here within = by (list_any (eqb n) numbers) where
  by : (b : Bool) → AllByRecursion (λ m. m < length questions) (if b then numbers else numbers ++ n ∷ [])
  by true = within
  by false = all_more (λ m. m < length questions) numbers n within here

-- with one more question, those of the numbers are as before
pub grown : (questions : List Question) (q : Question) (numbers : List ℕ) → AllByRecursion (λ m. m < length questions) numbers
    → AllByRecursion (λ m. m < length (insert_key same_question questions q)) numbers × (at_numbers (insert_key same_question questions q) numbers ≡ at_numbers questions numbers)
grown questions q numbers within = by (list_any (same_question q) questions) where
  same : (ns : List ℕ) → AllByRecursion (λ m. m < length questions) ns → at_numbers (questions ++ q ∷ []) ns ≡ at_numbers questions ns
  same [] within = refl
  same (n ∷ ns) within = ap (λ x. x ∷ at_numbers (questions ++ q ∷ []) ns) (get_or-append questions (q ∷ []) Root n within.0) ∙ ap (λ xs. get_or questions n Root ∷ xs) (same ns within.1)

  by : (b : Bool) → AllByRecursion (λ m. m < length (if b then questions else questions ++ q ∷ [])) numbers × (at_numbers (if b then questions else questions ++ q ∷ []) numbers ≡ at_numbers questions numbers)
  by true = (within, refl)
  by false =
      let more : length (questions ++ q ∷ []) ≡ length questions + 1 = length-append questions (q ∷ []) in
      (all_weaker (λ m. m < length questions) (λ m. m < length (questions ++ q ∷ [])) (λ m h. omega (arith, h, more)) numbers within, same numbers within)

-- a question that has a number is noted
pub noted_there : (questions : List Question) (numbers next : List ℕ) (n : ℕ) (q : Question) → IsNumbering questions numbers → slice_get questions n ≡ Some q → next ≡ insert_key eqb numbers n
    → IsNumbering questions next × (at_numbers questions next ≡ with_question (at_numbers questions numbers) q)
noted_there questions numbers next n q has at is =
    subst (λ ns. IsNumbering questions ns × (at_numbers questions ns ≡ with_question (at_numbers questions numbers) q)) (sym is)
    (record { distinct = has.distinct; within = within_more questions numbers n (slice_get_within questions n q at) has.within }, one_more questions n q has.distinct at numbers has.within)

-- a question is given a number, and none is noted
pub numbered_new : (questions more : List Question) (numbers : List ℕ) (q : Question) → IsNumbering questions numbers → more ≡ insert_key same_question questions q → IsDistinct same_question more → IsNumbering more numbers
numbered_new questions more numbers q has is distinct =
    record { distinct = distinct; within = subst (λ qs. AllByRecursion (λ m. m < length qs) numbers) (sym is) (grown questions q numbers has.within).0 }

-- and is noted
pub noted_new : (questions more : List Question) (numbers next : List ℕ) (n : ℕ) (q k : Question) → IsNumbering questions numbers → more ≡ insert_key same_question questions q → IsDistinct same_question more
    → slice_get more n ≡ Some k → same_question q k ≡ true → next ≡ insert_key eqb numbers n → IsNumbering more next × (at_numbers more next ≡ with_question (at_numbers questions numbers) q)
noted_new questions more numbers next n q k has is distinct at same noted =
    let this : slice_get more n ≡ Some q = at ∙ ap Some (sym ((question-Decides q k).0 same)) in
    let there = noted_there more numbers next n q (numbered_new questions more numbers q has is distinct) this noted in
    let before : at_numbers more numbers ≡ at_numbers questions numbers = ap (λ qs. at_numbers qs numbers) is ∙ (grown questions q numbers has.within).1 in
    (there.0, there.1 ∙ ap (λ qs. with_question qs q) before)

any_at : (numbers : List ℕ) (i n : ℕ) → slice_get numbers i ≡ Some n → list_any (eqb n) numbers ≡ true
any_at [] i n at = absurd (cc)
any_at (m ∷ numbers) zero n at = ap (λ b. b || list_any (eqb n) numbers) ((Decides-eqb n m).1 (sym (same_some m n at)))
any_at (m ∷ numbers) (suc i) n at = later (eqb n m) (any_at numbers i n at) where
  later : {c : Bool} (b : Bool) → c ≡ true → (b || c) ≡ true
  later true is = refl
  later false is = is

-- a number that stands at some place isn't put in again
pub there_already : (numbers : List ℕ) (i n : ℕ) → slice_get numbers i ≡ Some n → numbers ≡ insert_key eqb numbers n
there_already numbers i n at = ap (λ b. if b then numbers else numbers ++ n ∷ []) (sym (any_at numbers i n at))
