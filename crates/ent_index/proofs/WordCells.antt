-- The cells of words.
use Rattle.std.proofs.Common.{◌≡◌, ℕ, zero, suc, ◌+◌, ◌*◌, ◌/◌, ◌%◌, ◌^◌, ◌<◌, ◌≤◌, max, Bool, true, false, List, [], ◌∷◌, ◌++◌, length, get_or, take, drop, set, nat_eq, refl, sym, ap, ◌∙◌, arith, ◌⊎◌, inl, inr, mod-lt, zero-lt-suc, add-one}
use Rattle.std.specs.Prelude.{◌||◌, bit_and}
use Rattle.std.specs.Int.{bit_at}
use Rattle.std.specs.List.{AllByRecursion, filter, insert, sum_by}
use Rattle.std.specs.List.Sorted.{IsStrictlySortedBy}
use Rattle.std.specs.Ordering.{is_eq, nat_cmp}
use Rattle.std.specs.declared.cmp.Ordering.TheVariants.{Less}
use Rattle.std.proofs.lemmas.Bool.Decides.{Decides-eqb}
use Rattle.std.proofs.lemmas.List.{length-append}
use Rattle.std.proofs.lemmas.List.Concat.{length-flat_map}
use Rattle.std.proofs.lemmas.List.Folds.{list_any-append}
use Rattle.std.proofs.lemmas.List.Sums.{sum_by-append, sum_by-cons, sum_by-drop_more, sum_by-set, sum_by-take-drop}
use Rattle.std.proofs.lemmas.Nat.{ones-le}
use Rattle.std.proofs.lemmas.Nat.Bits.{bit_at-lt, shr_and_one}
use lib.Count.{ones}
use Rattle.ent_index.proofs.Views.{not_cell}
use Rattle.ent_index.proofs.Bits.{all_below, all_from, from_member, length-set_from, less, set_sorted, set_zero, to_member}
use Rattle.ent_index.specs.Groups.{is_member}
use Rattle.ent_index.specs.Rolls.{cells_in, cells_of, set_from}
use Rattle.ent_index.specs.proofs_only.Rolls.{AreWords, IsSeat, has_cells}
use Rattle.ent_index.specs.declared.words.Word.{Word}
use Rattle.ent_index.proofs.Placed.{least_at, no_word}

-- ---- tests

pub both_ways : (a b : Bool) → (a ≡ true → b ≡ true) → (b ≡ true → a ≡ true) → a ≡ b
both_ways true true f g = refl
both_ways true false f g = sym (f refl)
both_ways false true f g = g refl
both_ways false false f g = refl

or_left : (a b : Bool) → a ≡ true → (a || b) ≡ true
or_left true b h = refl
or_left false b h = absurd (cc)

pub or_right : (a b : Bool) → b ≡ true → (a || b) ≡ true
or_right true b h = refl
or_right false b h = h

or_split : (a b : Bool) → (a || b) ≡ true → (a ≡ true) ⊎ (b ≡ true)
or_split true b h = inl refl
or_split false b h = inr h

or_swap : (a e b : Bool) → ((a || e) || b) ≡ ((a || b) || e)
or_swap true e b = refl
or_swap false true true = refl
or_swap false true false = refl
or_swap false false true = refl
or_swap false false false = refl

pub or_assoc : (a b e : Bool) → (a || (b || e)) ≡ ((a || b) || e)
or_assoc true b e = refl
or_assoc false b e = refl

pub or_none : (a : Bool) → (a || false) ≡ a
or_none true = refl
or_none false = refl

pub unequal : (a b : ℕ) → nat_eq a b ≡ false → a ≡ b → ⊥
unequal a b h e = let yes = (Decides-eqb a b).1 e in absurd (cc)

-- ---- the cells of a word

pub in_word : (w : Word) (c : ℕ) → is_member (cells_in w) c ≡ true → (c / 64 ≡ w.place) × (bit_at w.bits (c % 64) ≡ 1)
unfolding cells_in
in_word w c h =
    let s = from_member 64 (64 * w.place) w.bits c h in
    let same : c % 64 ≡ s.0 = omega (arith, s.1, s.2) in
    (omega (arith, s.1, s.2), ap (bit_at w.bits) same ∙ s.3)

pub of_word : (w : Word) (c : ℕ) → c / 64 ≡ w.place → bit_at w.bits (c % 64) ≡ 1 → is_member (cells_in w) c ≡ true
unfolding cells_in
of_word w c here set = to_member 64 (64 * w.place) w.bits c (c % 64, omega arith, omega arith, set)

pub word_joined : (w v j : Word) → v.place ≡ w.place → j.place ≡ w.place → ((i : ℕ) → bit_at j.bits i ≡ max (bit_at w.bits i) (bit_at v.bits i))
    → (c : ℕ) → is_member (cells_in j) c ≡ (is_member (cells_in w) c || is_member (cells_in v) c)
word_joined w v j at here bits c = both_ways _ _ there back where
  i : ℕ
  i = c % 64

  a : Bool
  a = is_member (cells_in w) c

  b : Bool
  b = is_member (cells_in v) c

  which : bit_at j.bits i ≡ 1 → (bit_at w.bits i ≡ 1) ⊎ (bit_at v.bits i ≡ 1)
  which h = by (bit_at w.bits i) refl (bit_at-lt w.bits i) where
    by : (n : ℕ) → bit_at w.bits i ≡ n → bit_at w.bits i < 2 → (bit_at w.bits i ≡ 1) ⊎ (bit_at v.bits i ≡ 1)
    by zero e lt = inr (omega (arith, bits i))
    by (suc zero) e lt = inl e
    by (suc (suc n)) e lt = absurd (omega arith)

  there : is_member (cells_in j) c ≡ true → (a || b) ≡ true
  there h =
      let p = in_word j c h in
      elim (which p.1) [
        | inl set ↦ or_left a b (of_word w c (p.0 ∙ here) set)
        | inr set ↦ or_right a b (of_word v c (p.0 ∙ here ∙ sym at) set)
      ]

  back : (a || b) ≡ true → is_member (cells_in j) c ≡ true
  back h = elim (or_split a b h) [
    | inl m ↦ let p = in_word w c m in of_word j c (p.0 ∙ sym here) (omega (arith, p.1, bits i, bit_at-lt v.bits i))
    | inr m ↦ let p = in_word v c m in of_word j c (p.0 ∙ at ∙ sym here) (omega (arith, p.1, bits i, bit_at-lt w.bits i))
  ]

pub word_kept : (w j : Word) (bit : ℕ) → j.place ≡ w.place → ((i : ℕ) → i < 64 → (i ≡ bit → ⊥) → bit_at j.bits i ≡ bit_at w.bits i)
    → (c : ℕ) → (c ≡ w.place * 64 + bit → ⊥) → is_member (cells_in j) c ≡ is_member (cells_in w) c
word_kept w j bit here bits c apart = both_ways _ _ there back where
  same : c / 64 ≡ w.place → bit_at j.bits (c % 64) ≡ bit_at w.bits (c % 64)
  same at = bits (c % 64) (mod-lt c (zero-lt-suc 63)) (λ e. apart (omega (arith, e, at)))

  there : is_member (cells_in j) c ≡ true → is_member (cells_in w) c ≡ true
  there h = let p = in_word j c h in of_word w c (p.0 ∙ here) (sym (same (p.0 ∙ here)) ∙ p.1)

  back : is_member (cells_in w) c ≡ true → is_member (cells_in j) c ≡ true
  back h = let p = in_word w c h in of_word j c (p.0 ∙ sym here) (same p.0 ∙ p.1)

pub no_cells : (w : Word) → w.bits ≡ 0 → cells_in w ≡ []
unfolding cells_in
no_cells w none = ap (set_from 64 (64 * w.place)) none ∙ set_zero 64 (64 * w.place)

pub length-cells_in : (w : Word) → w.bits < 2 ^ 64 → length (cells_in w) ≡ ones w.bits
unfolding cells_in
length-cells_in w fits = length-set_from 64 (64 * w.place) w.bits fits

cells_from : (w : Word) → AllByRecursion (λ y. 64 * w.place ≤ y) (cells_in w)
unfolding cells_in
cells_from w = all_from 64 (64 * w.place) w.bits (64 * w.place) (omega arith)

cells_below : (w : Word) → AllByRecursion (λ y. y < 64 * (w.place + 1)) (cells_in w)
unfolding cells_in
cells_below w = all_below 64 (64 * w.place) w.bits (64 * (w.place + 1)) (omega arith)

cells_sorted : (w : Word) → IsStrictlySortedBy nat_cmp (cells_in w)
unfolding cells_in
cells_sorted w = set_sorted 64 (64 * w.place) w.bits

-- ---- members after a change

members : List Word → ℕ → Bool
members ws c = is_member (cells_of ws) c

first_more : (c : ℕ) (w : Word) (ws : List Word) → is_member (cells_of (w ∷ ws)) c ≡ (is_member (cells_in w) c || is_member (cells_of ws) c)
first_more c w ws = list_any-append (λ x. is_eq (nat_cmp c x)) (cells_in w) (cells_of ws)

pub set_members : (c : ℕ) (e : Bool) (ws : List Word) (i : ℕ) (v d : Word) → i < length ws → is_member (cells_in v) c ≡ (is_member (cells_in (get_or ws i d)) c || e)
    → is_member (cells_of (set ws i v)) c ≡ (is_member (cells_of ws) c || e)
set_members c e [] i v d lt h = absurd (omega arith)
set_members c e (w ∷ ws) zero v d lt h =
    first_more c v ws ∙ ap (λ b. b || is_member (cells_of ws) c) h ∙ or_swap (is_member (cells_in w) c) e (is_member (cells_of ws) c) ∙ ap (λ b. b || e) (sym (first_more c w ws))
set_members c e (w ∷ ws) (suc i) v d lt h =
    first_more c w (set ws i v) ∙ ap (λ b. is_member (cells_in w) c || b) (set_members c e ws i v d (omega arith) h)
    ∙ or_assoc (is_member (cells_in w) c) (is_member (cells_of ws) c) e ∙ ap (λ b. b || e) (sym (first_more c w ws))

pub kept_members : (c : ℕ) (ws : List Word) (i : ℕ) (v d : Word) → i < length ws → is_member (cells_in v) c ≡ is_member (cells_in (get_or ws i d)) c
    → is_member (cells_of (set ws i v)) c ≡ is_member (cells_of ws) c
kept_members c ws i v d lt h = set_members c false ws i v d lt (h ∙ sym (or_none _)) ∙ or_none _

pub insert_members : (c : ℕ) (ws : List Word) (i : ℕ) (v : Word) → i ≤ length ws → is_member (cells_of (insert ws i v)) c ≡ (is_member (cells_of ws) c || is_member (cells_in v) c)
insert_members c ws zero v le = first_more c v ws ∙ or_turn (is_member (cells_in v) c) (is_member (cells_of ws) c) where
  or_turn : (a b : Bool) → (a || b) ≡ (b || a)
  or_turn true true = refl
  or_turn true false = refl
  or_turn false true = refl
  or_turn false false = refl
insert_members c [] (suc i) v le = absurd (omega arith)
insert_members c (w ∷ ws) (suc i) v le =
    first_more c w (insert ws i v) ∙ ap (λ b. is_member (cells_in w) c || b) (insert_members c ws i v (omega arith))
    ∙ or_assoc (is_member (cells_in w) c) (is_member (cells_of ws) c) (is_member (cells_in v) c) ∙ ap (λ b. b || is_member (cells_in v) c) (sym (first_more c w ws))

-- without the words that are empty the cells are the same
pub filled_cells : (ws : List Word) → cells_of (filter has_cells ws) ≡ cells_of ws
filled_cells [] = refl
filled_cells (w ∷ ws) = by (nat_eq w.bits 0) refl (filled_cells ws) where
  by : (b : Bool) → nat_eq w.bits 0 ≡ b → cells_of (filter has_cells ws) ≡ cells_of ws → cells_of (filter has_cells (w ∷ ws)) ≡ cells_of (w ∷ ws)
  by true e later = rw e (later ∙ ap (λ xs. xs ++ cells_of ws) (sym (no_cells w ((Decides-eqb w.bits 0).0 e))))
  by false e later = rw e (ap (λ xs. cells_in w ++ xs) later)

-- ---- how many after a change

counted : (ws : List Word) → length (cells_of ws) ≡ sum_by (λ w. length (cells_in w)) ws
counted ws = length-flat_map cells_in ws

pub set_count : (ws : List Word) (i : ℕ) (v d : Word) → i < length ws → length (cells_of (set ws i v)) + length (cells_in (get_or ws i d)) ≡ length (cells_of ws) + length (cells_in v)
set_count ws i v d lt = omega (arith, counted ws, counted (set ws i v), sum_by-set (λ w. length (cells_in w)) ws i v d lt)

pub insert_count : (ws : List Word) (i : ℕ) (v : Word) → length (cells_of (insert ws i v)) ≡ length (cells_of ws) + length (cells_in v)
insert_count ws i v =
    let f : Word → ℕ = λ w. length (cells_in w) in
    omega (arith, counted ws, counted (insert ws i v), sum_by-append f (take i ws) (v ∷ drop i ws), sum_by-cons f v (drop i ws), sum_by-take-drop f ws i)

pub few : (least : ℕ) (ws : List Word) → AreWords least ws → length (cells_of ws) + 64 * least ≤ 4294967296
few least [] a = omega (arith, a)
few least (w ∷ ws) a =
    omega (arith, a.0, length-append (cells_in w) (cells_of ws), length-cells_in w a.1, ones-le 64 w.bits a.1, few (w.place + 1) ws a.2)

-- ---- in rising order

all_both : (P : ℕ → Type 0) (xs ys : List ℕ) → AllByRecursion P xs → AllByRecursion P ys → AllByRecursion P (xs ++ ys)
all_both P [] ys p q = q
all_both P (x ∷ xs) ys p q = (p.0, all_both P xs ys p.1 q)

all_least : (m n : ℕ) (ys : List ℕ) → n ≤ m → AllByRecursion (λ y. m ≤ y) ys → AllByRecursion (λ y. n ≤ y) ys
all_least m n [] le a = tt
all_least m n (y ∷ ys) le a = (omega (arith, a.0), all_least m n ys le a.1)

all_less : (x m : ℕ) (ys : List ℕ) → x < m → AllByRecursion (λ y. m ≤ y) ys → AllByRecursion (λ y. nat_cmp x y ≡ Less) ys
all_less x m [] lt a = tt
all_less x m (y ∷ ys) lt a = (less x y (omega (arith, a.0)), all_less x m ys lt a.1)

sorted_both : (m : ℕ) (xs ys : List ℕ) → IsStrictlySortedBy nat_cmp xs → AllByRecursion (λ y. y < m) xs → IsStrictlySortedBy nat_cmp ys → AllByRecursion (λ y. m ≤ y) ys → IsStrictlySortedBy nat_cmp (xs ++ ys)
unfolding IsStrictlySortedBy
sorted_both m [] ys p below q from = q
sorted_both m (x ∷ xs) ys p below q from = (all_both (λ y. nat_cmp x y ≡ Less) xs ys p.0 (all_less x m ys below.0 from), sorted_both m xs ys p.1 below.1 q from)

pub words_from : (least : ℕ) (ws : List Word) → AreWords least ws → AllByRecursion (λ y. 64 * least ≤ y) (cells_of ws)
words_from least [] a = tt
words_from least (w ∷ ws) a =
    all_both (λ y. 64 * least ≤ y) (cells_in w) (cells_of ws) (all_least (64 * w.place) (64 * least) (cells_in w) (omega (arith, a.0)) (cells_from w))
    (all_least (64 * (w.place + 1)) (64 * least) (cells_of ws) (omega (arith, a.0)) (words_from (w.place + 1) ws a.2))

sorted_none : IsStrictlySortedBy nat_cmp []
unfolding IsStrictlySortedBy
sorted_none = tt

pub words_sorted : (least : ℕ) (ws : List Word) → AreWords least ws → IsStrictlySortedBy nat_cmp (cells_of ws)
words_sorted least [] a = sorted_none
words_sorted least (w ∷ ws) a = sorted_both (64 * (w.place + 1)) (cells_in w) (cells_of ws) (cells_sorted w) (cells_below w) (words_sorted (w.place + 1) ws a.2) (words_from (w.place + 1) ws a.2)

-- ---- one word's part

not_behind : (m c : ℕ) (ys : List ℕ) → c < m → AllByRecursion (λ y. m ≤ y) ys → is_member ys c ≡ false
not_behind m c [] lt a = refl
not_behind m c (y ∷ ys) lt a = ap (λ b. b || is_member ys c) (not_cell c y (λ e. absurd (omega (arith, e, a.0)))) ∙ not_behind m c ys lt a.1

not_in : (w : Word) (c : ℕ) → (c / 64 ≡ w.place → ⊥) → is_member (cells_in w) c ≡ false
not_in w c other = by (is_member (cells_in w) c) refl where
  by : (b : Bool) → is_member (cells_in w) c ≡ b → is_member (cells_in w) c ≡ false
  by true e = absurd (other (in_word w c e).0)
  by false e = e

-- a cell is there if it is in the word of its place
pub member_there : (least : ℕ) (ws : List Word) (i : ℕ) (c : ℕ) (d : Word) → AreWords least ws → i < length ws → c / 64 ≡ (get_or ws i d).place → is_member (cells_of ws) c ≡ is_member (cells_in (get_or ws i d)) c
member_there least [] i c d a lt at = absurd (omega arith)
member_there least (w ∷ ws) zero c d a lt at =
    first_more c w ws ∙ ap (λ b. is_member (cells_in w) c || b) (not_behind (64 * (w.place + 1)) c (cells_of ws) (omega (arith, at)) (words_from (w.place + 1) ws a.2)) ∙ or_none _
member_there least (w ∷ ws) (suc i) c d a lt at =
    first_more c w ws ∙ ap (λ b. b || is_member (cells_of ws) c) (not_in w c (λ e. omega (arith, e, at, least_at (w.place + 1) ws a.2 i d (omega arith))))
    ∙ member_there (w.place + 1) ws i c d a.2 (omega arith) at

-- and isn't if no word has its place
pub member_absent : (ws : List Word) (c : ℕ) → ((k : ℕ) (d : Word) → k < length ws → c / 64 ≡ (get_or ws k d).place → ⊥) → is_member (cells_of ws) c ≡ false
member_absent [] c none = refl
member_absent (w ∷ ws) c none =
    first_more c w ws ∙ ap (λ b. b || is_member (cells_of ws) c) (not_in w c (none 0 w (omega arith))) ∙ member_absent ws c (λ k d lt. none (suc k) d (omega arith))

pub bit_told : (w : Word) (c : ℕ) → c / 64 ≡ w.place → nat_eq (bit_and (w.bits / 2 ^ (c % 64)) 1) 1 ≡ is_member (cells_in w) c
bit_told w c at = both_ways _ _ there back where
  bit : bit_and (w.bits / 2 ^ (c % 64)) 1 ≡ bit_at w.bits (c % 64)
  bit = shr_and_one w.bits (c % 64)

  there : nat_eq (bit_and (w.bits / 2 ^ (c % 64)) 1) 1 ≡ true → is_member (cells_in w) c ≡ true
  there h = of_word w c at (sym bit ∙ (Decides-eqb (bit_and (w.bits / 2 ^ (c % 64)) 1) 1).0 h)

  back : is_member (cells_in w) c ≡ true → nat_eq (bit_and (w.bits / 2 ^ (c % 64)) 1) 1 ≡ true
  back h = (Decides-eqb (bit_and (w.bits / 2 ^ (c % 64)) 1) 1).1 (bit ∙ (in_word w c h).1)

pub has_none : (ws : List Word) (i c : ℕ) → AreWords 0 ws → IsSeat (c / 64) ws i → ((d : Word) → i < length ws → (get_or ws i d).place ≡ c / 64 → ⊥) → is_member (cells_of ws) c ≡ false
has_none ws i c a seat absent = member_absent ws c (no_word (c / 64) ws i a seat absent)
