-- The numbers whose bits are set.
use Rattle.std.proofs.Common.{◌≡◌, ℕ, zero, suc, ◌+◌, ◌-◌, min, subst, ◌*◌, ◌/◌, ◌%◌, ◌^◌, ◌<◌, ◌≤◌, Bool, true, false, cond, List, [], ◌∷◌, length, nat_eq, refl, sym, ap, ap₂, ◌∙◌, arith, ◌⊎◌, inl, inr, mod-lt, zero-lt-suc, pow-suc, add-zero}
use Rattle.std.specs.Prelude.{◌||◌}
use Rattle.std.specs.Int.{bit_at}
use Rattle.std.specs.List.{AllByRecursion}
use Rattle.std.specs.List.Sorted.{IsStrictlySortedBy}
use Rattle.std.specs.Ordering.{is_eq, nat_cmp}
use Rattle.std.specs.declared.cmp.Ordering.TheVariants.{Equal, Greater, Less}
use Rattle.std.proofs.lemmas.Bool.Decides.{Decides-ltb}
use Rattle.std.proofs.lemmas.Nat.Bits.{bit_at_lowest, bit_at-suc}
use lib.Bits.{bit_and, and_step, and_self}
use lib.Count.{count_trailing_zeros, ones, ones_step, under}
use Rattle.ent_index.proofs.Views.{cell_itself, same_cell}
use Rattle.ent_index.specs.Groups.{is_member}
use Rattle.ent_index.specs.Rolls.{set_from}

-- a number's lowest bit is set, or it isn't
lowest_bit : (x : ℕ) → (x % 2 ≡ 1) ⊎ (x % 2 ≡ 0)
lowest_bit x = by (x % 2) (mod-lt x (zero-lt-suc 1)) refl where
  by : (r : ℕ) → r < 2 → x % 2 ≡ r → (x % 2 ≡ 1) ⊎ (x % 2 ≡ 0)
  by zero lt e = inr e
  by (suc zero) lt e = inl e
  by (suc (suc r)) lt e = absurd (omega arith)

set_yes : (k b x : ℕ) → x % 2 ≡ 1 → set_from (suc k) b x ≡ b ∷ set_from k (b + 1) (x / 2)
unfolding set_from
set_yes k b x e = ap (λ r. cond (nat_eq r 1) (b ∷ set_from k (b + 1) (x / 2)) (set_from k (b + 1) (x / 2))) e

set_no : (k b x : ℕ) → x % 2 ≡ 0 → set_from (suc k) b x ≡ set_from k (b + 1) (x / 2)
unfolding set_from
set_no k b x e = ap (λ r. cond (nat_eq r 1) (b ∷ set_from k (b + 1) (x / 2)) (set_from k (b + 1) (x / 2))) e

set_nothing : (b x : ℕ) → set_from zero b x ≡ []
unfolding set_from
set_nothing b x = refl

pub set_zero : (k b : ℕ) → set_from k b 0 ≡ []
set_zero zero b = set_nothing b 0
set_zero (suc k) b = set_no k b 0 refl ∙ set_zero k (b + 1)

-- ---- how many

no_ones : ones 0 ≡ 0
unfolding ones
no_ones = refl

pub length-set_from : (k b x : ℕ) → x < 2 ^ k → length (set_from k b x) ≡ ones x
length-set_from zero b x fits =
    let none : x ≡ 0 = omega arith in
    ap length (set_nothing b x) ∙ sym (ap ones none ∙ no_ones)
length-set_from (suc k) b x fits =
    let rest = length-set_from k (b + 1) (x / 2) (omega (arith, pow-suc 2 k)) in
    elim (lowest_bit x) [
      | inl e ↦ ap length (set_yes k b x e) ∙ omega (arith, rest, ones_step x)
      | inr e ↦ ap length (set_no k b x e) ∙ omega (arith, rest, ones_step x)
    ]

-- where each bit of one number is one of another, there are at most as many
pub ones_within : (k x y : ℕ) → x < 2 ^ k → ((i : ℕ) → bit_at x i ≤ bit_at y i) → ones x ≤ ones y
ones_within zero x y fits within =
    let none : x ≡ 0 = omega arith in
    omega (arith, ap ones none ∙ no_ones)
ones_within (suc k) x y fits within =
    let low : x % 2 ≤ y % 2 = omega (arith, within 0, bit_at_lowest x, bit_at_lowest y) in
    let rest = ones_within k (x / 2) (y / 2) (omega (arith, pow-suc 2 k)) (λ i. omega (arith, within (suc i), bit_at-suc x i, bit_at-suc y i)) in
    omega (arith, low, rest, ones_step x, ones_step y)

-- ---- which

member_here : (c y : ℕ) (ys : List ℕ) → c ≡ y → is_member (y ∷ ys) c ≡ true
member_here c y ys e = ap (λ t. t || is_member ys c) (cell_itself c y e)

member_later : (c y : ℕ) (ys : List ℕ) → is_member ys c ≡ true → is_member (y ∷ ys) c ≡ true
member_later c y ys h = ap (λ t. is_eq (nat_cmp c y) || t) h ∙ or_true (is_eq (nat_cmp c y)) where
  or_true : (t : Bool) → (t || true) ≡ true
  or_true true = refl
  or_true false = refl

member_split : (c y : ℕ) (ys : List ℕ) → is_member (y ∷ ys) c ≡ true → (c ≡ y) ⊎ (is_member ys c ≡ true)
member_split c y ys h = by (is_eq (nat_cmp c y)) refl h where
  by : (t : Bool) → is_eq (nat_cmp c y) ≡ t → (t || is_member ys c) ≡ true → (c ≡ y) ⊎ (is_member ys c ≡ true)
  by true e h = inl (same_cell c y e)
  by false e h = inr h

-- a member is a number of a set bit
abbrev pub IsSetFrom : ℕ → ℕ → ℕ → ℕ → Type 0
IsSetFrom k b x c = (i : ℕ) × (i < k) × (c ≡ b + i) × (bit_at x i ≡ 1)

further : (k b x c : ℕ) → IsSetFrom k (b + 1) (x / 2) c → IsSetFrom (suc k) b x c
further k b x c s = (suc s.0, omega (arith, s.1), omega (arith, s.2), bit_at-suc x s.0 ∙ s.3)

pub from_member : (k b x c : ℕ) → is_member (set_from k b x) c ≡ true → IsSetFrom k b x c
from_member zero b x c h = let no : is_member [] c ≡ true = sym (ap (λ ys. is_member ys c) (set_nothing b x)) ∙ h in absurd (cc)
from_member (suc k) b x c h =
    elim (lowest_bit x) [
      | inl e ↦ elim (member_split c b (set_from k (b + 1) (x / 2)) (sym (ap (λ ys. is_member ys c) (set_yes k b x e)) ∙ h)) [
        | inl here ↦ (0, omega arith, here ∙ sym (add-zero b), bit_at_lowest x ∙ e)
        | inr later ↦ further k b x c (from_member k (b + 1) (x / 2) c later)
      ]
      | inr e ↦ further k b x c (from_member k (b + 1) (x / 2) c (sym (ap (λ ys. is_member ys c) (set_no k b x e)) ∙ h))
    ]

to_step : (k b x c : ℕ) → (IsSetFrom k (b + 1) (x / 2) c → is_member (set_from k (b + 1) (x / 2)) c ≡ true) → (i : ℕ) → i < suc k → c ≡ b + i → bit_at x i ≡ 1 → is_member (set_from (suc k) b x) c ≡ true
to_step k b x c rest zero lt is set = ap (λ ys. is_member ys c) (set_yes k b x (sym (bit_at_lowest x) ∙ set)) ∙ member_here c b (set_from k (b + 1) (x / 2)) (is ∙ add-zero b)
to_step k b x c rest (suc i) lt is set =
    let there = rest (i, omega (arith, lt), omega (arith, is), sym (bit_at-suc x i) ∙ set) in
    elim (lowest_bit x) [
      | inl e ↦ ap (λ ys. is_member ys c) (set_yes k b x e) ∙ member_later c b (set_from k (b + 1) (x / 2)) there
      | inr e ↦ ap (λ ys. is_member ys c) (set_no k b x e) ∙ there
    ]

pub to_member : (k b x c : ℕ) → IsSetFrom k b x c → is_member (set_from k b x) c ≡ true
to_member zero b x c s = absurd (omega (arith, s.1))
to_member (suc k) b x c s = to_step k b x c (to_member k (b + 1) (x / 2) c) s.0 s.1 s.2 s.3

-- ---- in which order

pub all_from : (k b x least : ℕ) → least ≤ b → AllByRecursion (λ y. least ≤ y) (set_from k b x)
all_from zero b x least le = subst (AllByRecursion (λ y. least ≤ y)) (sym (set_nothing b x)) tt
all_from (suc k) b x least le =
    let rest = all_from k (b + 1) (x / 2) least (omega arith) in
    elim (lowest_bit x) [
      | inl e ↦ subst (AllByRecursion (λ y. least ≤ y)) (sym (set_yes k b x e)) (le, rest)
      | inr e ↦ subst (AllByRecursion (λ y. least ≤ y)) (sym (set_no k b x e)) rest
    ]

pub all_below : (k b x end : ℕ) → b + k ≤ end → AllByRecursion (λ y. y < end) (set_from k b x)
all_below zero b x end le = subst (AllByRecursion (λ y. y < end)) (sym (set_nothing b x)) tt
all_below (suc k) b x end le =
    let rest = all_below k (b + 1) (x / 2) end (omega arith) in
    elim (lowest_bit x) [
      | inl e ↦ subst (AllByRecursion (λ y. y < end)) (sym (set_yes k b x e)) (omega arith, rest)
      | inr e ↦ subst (AllByRecursion (λ y. y < end)) (sym (set_no k b x e)) rest
    ]

pub less : (x y : ℕ) → x < y → nat_cmp x y ≡ Less
less x y lt = ap (λ t. cond t Less (cond (nat_eq x y) Equal Greater)) ((Decides-ltb x y).1 lt)

pub all_behind : (x : ℕ) (ys : List ℕ) → AllByRecursion (λ y. x + 1 ≤ y) ys → AllByRecursion (λ y. nat_cmp x y ≡ Less) ys
all_behind x [] a = tt
all_behind x (y ∷ ys) a = (less x y (omega (arith, a.0)), all_behind x ys a.1)

pub set_sorted : (k b x : ℕ) → IsStrictlySortedBy nat_cmp (set_from k b x)
unfolding IsStrictlySortedBy
set_sorted zero b x = subst (IsStrictlySortedBy nat_cmp) (sym (set_nothing b x)) tt
set_sorted (suc k) b x =
    let rest = set_sorted k (b + 1) (x / 2) in
    elim (lowest_bit x) [
      | inl e ↦ subst (IsStrictlySortedBy nat_cmp) (sym (set_yes k b x e)) (all_behind b (set_from k (b + 1) (x / 2)) (all_from k (b + 1) (x / 2) (b + 1) (omega arith)), rest)
      | inr e ↦ subst (IsStrictlySortedBy nat_cmp) (sym (set_no k b x e)) rest
    ]

-- ---- the first

abbrev Lowest : ℕ → ℕ → ℕ → Type 0
Lowest k b x = set_from k b x ≡ (b + count_trailing_zeros k x) ∷ set_from k b (bit_and x (x - 1))

pub set_lowest : (k b x : ℕ) → 0 < x → x < 2 ^ k → Lowest k b x
unfolding count_trailing_zeros
set_lowest zero b x some fits = absurd (omega arith)
set_lowest (suc k) b x some fits = elim (lowest_bit x) [
  | inl e ↦ odd e
  | inr e ↦ even (λ p. set_lowest k (b + 1) (x / 2) p (omega (arith, pow-suc 2 k))) e
]
  where
    y : ℕ
    y = bit_and x (x - 1)

    odd : x % 2 ≡ 1 → Lowest (suc k) b x
    odd e =
        let half : (x - 1) / 2 ≡ x / 2 = omega arith in
        let low : min (x % 2) ((x - 1) % 2) ≡ 0 = omega arith in
        let is : y ≡ x / 2 * 2 + 0 = and_step x (x - 1) ∙ ap₂ (λ u v. u * 2 + v) (ap (bit_and (x / 2)) half ∙ and_self (x / 2)) low in
        let p : y % 2 ≡ 0 = omega arith in
        let q : y / 2 ≡ x / 2 = omega arith in
        set_yes k b x e
        ∙ ap₂ (λ u v. u ∷ v) (sym (ap (λ r. b + under r (count_trailing_zeros k (x / 2))) e ∙ add-zero b)) (sym (set_no k b y p ∙ ap (set_from k (b + 1)) q))

    even : (0 < x / 2 → Lowest k (b + 1) (x / 2)) → x % 2 ≡ 0 → Lowest (suc k) b x
    even below e =
        let z = bit_and (x / 2) (x / 2 - 1) in
        let half : (x - 1) / 2 ≡ x / 2 - 1 = omega arith in
        let low : min (x % 2) ((x - 1) % 2) ≡ 0 = omega arith in
        let is : y ≡ z * 2 + 0 = and_step x (x - 1) ∙ ap₂ (λ u v. u * 2 + v) (ap (bit_and (x / 2)) half) low in
        let p : y % 2 ≡ 0 = omega arith in
        let q : y / 2 ≡ z = omega arith in
        let t = count_trailing_zeros k (x / 2) in
        let place : b + 1 + t ≡ b + suc t = omega arith in
        set_no k b x e ∙ below (omega arith)
        ∙ ap₂ (λ u v. u ∷ v) (place ∙ sym (ap (λ r. b + under r t) e)) (sym (set_no k b y p ∙ ap (set_from k (b + 1)) q))
