-- Lists that are split over several by a number for each element.
use Rattle.std.proofs.Common.{◌≡◌, ℕ, zero, suc, ◌+◌, ◌<◌, List, [], ◌∷◌, length, Bool, true, false, Some}
use Rattle.std.proofs.Common.{refl, sym, ap, subst, ◌∙◌, arith}
use Rattle.std.specs.Prelude.{nat_eq, nat_le, slice_get}
use Rattle.std.specs.List.{sum}
use Rattle.std.proofs.lemmas.Bool.{eqb-false, eqb-true, le-leb, leb-false, leb-true, lt-leb}
use Rattle.std.proofs.lemmas.List.Sums.{sum_by-cons}

-- ---- one after the other

-- of each piece, the first with that number
abbrev pub Pieces : {R : Type 0} → (ℕ → R → Type 0) → ℕ → List R → Type 0
Pieces P k [] = Unit {0}
Pieces P k (r ∷ rs) = P k r × Pieces P (suc k) rs

pieces_from : {R : Type 0} (P : ℕ → R → Type 0) (k : ℕ) (rs : List R)
    → ((i : ℕ) (r : R) → slice_get rs i ≡ Some r → P (k + i) r) → Pieces P k rs
pieces_from P k [] h = tt
pieces_from P k (r ∷ rs) h = (
  subst (λ n. P n r) (omega arith) (h zero r refl),
  pieces_from P (suc k) rs (λ i s e. let same : k + suc i ≡ suc k + i = omega arith in subst (λ n. P n s) same (h (suc i) s e)),
)

pub pieces : {R : Type 0} (P : ℕ → R → Type 0) (rs : List R)
    → ((i : ℕ) (r : R) → slice_get rs i ≡ Some r → P i r) → Pieces P 0 rs
pieces P rs h = pieces_from P 0 rs (λ i r e. let same : i ≡ 0 + i = omega arith in subst (λ n. P n r) same (h i r e))

-- ---- sums

-- what passes the first test passes exactly one of the two others
abbrev pub Splits : Bool → Bool → Bool → Type 0
Splits true true false = Unit {0}
Splits true false true = Unit {0}
Splits false false false = Unit {0}
Splits _ _ _ = ⊥

-- a number for each test, which adds up where the test is split
pub record IsAdditive {K : Type 0} (v : (K → Bool) → ℕ) : Type 0 where
  pub none : (p : K → Bool) → ((x : K) → p x ≡ false) → v p ≡ 0
  pub both : (p q r : K → Bool) → ((x : K) → Splits (p x) (q x) (r x)) → v p ≡ v q + v r

-- at or above a number is at it or above it
at_or_above : (k n : ℕ) → Splits (nat_le k n) (nat_eq n k) (nat_le (suc k) n)
at_or_above k n = by (nat_le k n) (nat_eq n k) (nat_le (suc k) n) refl refl refl
  where
    by : (a b c : Bool) → nat_le k n ≡ a → nat_eq n k ≡ b → nat_le (suc k) n ≡ c → Splits a b c
    by true true false e f g = tt
    by true false true e f g = tt
    by false false false e f g = tt
    by true true true e f g = absurd (omega (arith, eqb-true n k f, leb-true (suc k) n g))
    by true false false e f g = absurd (eqb-false n k f (omega (arith, leb-true k n e, leb-false (suc k) n g)))
    by false true c e f g = absurd (omega (arith, eqb-true n k f, leb-false k n e))
    by false false true e f g = absurd (omega (arith, leb-true (suc k) n g, leb-false k n e))

module _ {K : Type 0} (at : K → ℕ) (v : (K → Bool) → ℕ) (additive : IsAdditive v) where
  -- the piece of a number is what is at it
  abbrev pub IsShare : ℕ → ℕ → Type 0
  IsShare k n = n ≡ v (λ x. nat_eq (at x) k)

  sum_from : (k : ℕ) (ns : List ℕ) → ((x : K) → at x < k + length ns) → Pieces IsShare k ns → sum ns ≡ v (λ x. nat_le k (at x))
  sum_from k [] below h = sym (additive.none (λ x. nat_le k (at x)) (λ x. lt-leb k (at x) (omega (arith, below x))))
  sum_from k (n ∷ ns) below h =
      sum_by-cons (λ (n : ℕ). n) n ns
      ∙ (λ i. h.0 i + sum_from (suc k) ns (λ x. omega (arith, below x)) h.1 i)
      ∙ sym (additive.both (λ x. nat_le k (at x)) (λ x. nat_eq (at x) k) (λ x. nat_le (suc k) (at x)) (λ x. at_or_above k (at x)))

  -- the sum over all pieces
  pub sum_of_all : (ns : List ℕ) → ((x : K) → at x < length ns) → Pieces IsShare 0 ns → sum ns ≡ v (λ x. true)
  sum_of_all ns below h =
      sum_from 0 ns (λ x. omega (arith, below x)) h
      ∙ ap v (λ i x. le-leb 0 (at x) (omega arith) i)
