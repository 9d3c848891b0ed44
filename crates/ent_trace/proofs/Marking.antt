-- Numbers that are marked: room for one more, and one more.
use Rattle.std.proofs.Common.{◌≡◌, ℕ, zero, suc, ◌<◌, ◌≤◌, Bool, true, false, List, [], ◌∷◌, ◌++◌, length, slice_get, slice_set, refl, sym, ap, ◌∙◌, subst, arith}
use Rattle.std.specs.Prelude.{◌||◌, eqb}
use Rattle.std.specs.List.{AllByRecursion}
use Rattle.std.proofs.lemmas.Bool.Decides.{Decides-eqb}
use Rattle.std.proofs.lemmas.List.Folds.{list_any-append}
use Rattle.ent_trace.specs.proofs_only.Marks.{AreMarked, HasRoom, is_stamp}

-- two numbers that differ aren't equal
differ : (n k : ℕ) → (n ≡ k → ⊥) → eqb n k ≡ false
differ n k apart = by (eqb n k) refl where
  by : (b : Bool) → eqb n k ≡ b → b ≡ false
  by true is = absurd (apart ((Decides-eqb n k).0 is))
  by false is = refl

-- one higher, they are equal where they were
both_higher : (n k : ℕ) → eqb (suc n) (suc k) ≡ eqb n k
both_higher n k = by (eqb n k) refl where
  by : (b : Bool) → eqb n k ≡ b → eqb (suc n) (suc k) ≡ b
  by true is = (Decides-eqb (suc n) (suc k)).1 (ap suc ((Decides-eqb n k).0 is))
  by false is = differ (suc n) (suc k) (λ e. let yes : eqb n k ≡ true = (Decides-eqb n k).1 (omega (arith, e)) in absurd (cc))

-- ---- room

no_time : (stamp : ℕ) (more : List ℕ) (n : ℕ) → 0 < stamp → AllByRecursion (λ mark. mark ≡ 0) more → is_stamp stamp (slice_get more n) ≡ false
no_time stamp [] n begun zeros = refl
no_time stamp (mark ∷ more) zero begun zeros = differ mark stamp (λ e. omega (arith, e, zeros.0, begun))
no_time stamp (mark ∷ more) (suc n) begun zeros = no_time stamp more n begun zeros.1

same_stamp : (stamp : ℕ) (marks more : List ℕ) (n : ℕ) → 0 < stamp → AllByRecursion (λ mark. mark ≡ 0) more → is_stamp stamp (slice_get (marks ++ more) n) ≡ is_stamp stamp (slice_get marks n)
same_stamp stamp [] more n begun zeros = no_time stamp more n begun zeros
same_stamp stamp (mark ∷ marks) more zero begun zeros = refl
same_stamp stamp (mark ∷ marks) more (suc n) begun zeros = same_stamp stamp marks more n begun zeros

zeros_past : (stamp : ℕ) (more : List ℕ) → AllByRecursion (λ mark. mark ≡ 0) more → AllByRecursion (λ mark. mark ≤ stamp) more
zeros_past stamp [] zeros = tt
zeros_past stamp (mark ∷ more) zeros = (omega (arith, zeros.0), zeros_past stamp more zeros.1)

past_more : (stamp : ℕ) (marks more : List ℕ) → AllByRecursion (λ mark. mark ≤ stamp) marks → AllByRecursion (λ mark. mark ≤ stamp) more → AllByRecursion (λ mark. mark ≤ stamp) (marks ++ more)
past_more stamp [] more past all = all
past_more stamp (mark ∷ marks) more past all = (past.0, past_more stamp marks more past.1 all)

pub marked_room : (stamp : ℕ) (old new numbers : List ℕ) → HasRoom old new → AreMarked stamp old numbers → AreMarked stamp new numbers
marked_room stamp old new numbers room are =
    subst (λ marks. AreMarked stamp marks numbers) (sym room.1.0) (record {
      begun = are.begun;
      past = past_more stamp old room.0 are.past (zeros_past stamp room.0 room.1.1);
      told = λ n. are.told n ∙ sym (same_stamp stamp old room.0 n are.begun room.1.1);
    })

-- ---- one more

or_true : (b : Bool) → (b || true) ≡ true
or_true true = refl
or_true false = refl

or_false : (b : Bool) → b ≡ (b || false)
or_false true = refl
or_false false = refl

set_stamp : (stamp : ℕ) (marks : List ℕ) (n k : ℕ) → n < length marks → is_stamp stamp (slice_get (slice_set marks n stamp) k) ≡ (is_stamp stamp (slice_get marks k) || (eqb k n || false))
set_stamp stamp [] n k within = absurd (omega (arith, within))
set_stamp stamp (mark ∷ marks) zero zero within =
    (Decides-eqb stamp stamp).1 refl ∙ sym (ap (λ b. eqb mark stamp || (b || false)) ((Decides-eqb 0 0).1 refl) ∙ or_true (eqb mark stamp))
set_stamp stamp (mark ∷ marks) zero (suc k) within =
    or_false (is_stamp stamp (slice_get marks k)) ∙ ap (λ b. is_stamp stamp (slice_get marks k) || (b || false)) (sym (differ (suc k) 0 (λ e. omega (arith, e))))
set_stamp stamp (mark ∷ marks) (suc n) zero within =
    or_false (eqb mark stamp) ∙ ap (λ b. eqb mark stamp || (b || false)) (sym (differ 0 (suc n) (λ e. omega (arith, e))))
set_stamp stamp (mark ∷ marks) (suc n) (suc k) within =
    set_stamp stamp marks n k (omega (arith, within)) ∙ ap (λ b. is_stamp stamp (slice_get marks k) || (b || false)) (sym (both_higher k n))

set_past : (stamp : ℕ) (marks : List ℕ) (n : ℕ) → AllByRecursion (λ mark. mark ≤ stamp) marks → AllByRecursion (λ mark. mark ≤ stamp) (slice_set marks n stamp)
set_past stamp [] n past = tt
set_past stamp (mark ∷ marks) zero past = (omega arith, past.1)
set_past stamp (mark ∷ marks) (suc n) past = (past.0, set_past stamp marks n past.1)

pub marked_more : (stamp : ℕ) (marks numbers : List ℕ) (n : ℕ) → AreMarked stamp marks numbers → n < length marks → AreMarked stamp (slice_set marks n stamp) (numbers ++ n ∷ [])
marked_more stamp marks numbers n are within = record {
  begun = are.begun;
  past = set_past stamp marks n are.past;
  told = λ k. list_any-append (eqb k) numbers (n ∷ []) ∙ ap (λ b. b || (eqb k n || false)) (are.told k) ∙ sym (set_stamp stamp marks n k within);
}
