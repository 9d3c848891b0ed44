-- Words in the order of their places, and where the word of a place stands.
use Rattle.std.proofs.Common.{◌≡◌, ℕ, zero, suc, ◌+◌, ◌^◌, ◌<◌, ◌≤◌, Bool, true, false, List, [], ◌∷◌, length, get_or, ltb, set, refl, sym, ap, subst, ◌∙◌, arith, inl, inr}
use Rattle.std.specs.List.{filter, insert}
use Rattle.std.specs.List.Sorted.{IsNonDecreasingBy, IsPartitionPoint}
use Rattle.std.proofs.lemmas.Bool.{cases_eq, cases_lt, cases_order}
use Rattle.std.proofs.lemmas.Bool.Decides.{Decides-ltb}
use Rattle.std.proofs.lemmas.List.{get_or_default}
use Rattle.ent_index.specs.proofs_only.Rolls.{AreWords, IsSeat, IsWord, has_cells}
use Rattle.ent_index.specs.declared.words.Word.{Word}

-- ---- the words in their order

pub words_end : (least : ℕ) (ws : List Word) → AreWords least ws → least ≤ 67108864
words_end least [] a = a
words_end least (w ∷ ws) a = omega (arith, a.0, words_end (w.place + 1) ws a.2)

pub least_at : (least : ℕ) (ws : List Word) → AreWords least ws → (k : ℕ) (d : Word) → k < length ws → least ≤ (get_or ws k d).place
least_at least [] a k d lt = absurd (omega arith)
least_at least (w ∷ ws) a zero d lt = a.0
least_at least (w ∷ ws) a (suc k) d lt = omega (arith, a.0, least_at (w.place + 1) ws a.2 k d (omega arith))

pub rise_at : (least : ℕ) (ws : List Word) → AreWords least ws → (i j : ℕ) (d : Word) → i < j → j < length ws → (get_or ws i d).place < (get_or ws j d).place
rise_at least [] a i j d less lt = absurd (omega arith)
rise_at least (w ∷ ws) a i zero d less lt = absurd (omega arith)
rise_at least (w ∷ ws) a zero (suc j) d less lt = omega (arith, least_at (w.place + 1) ws a.2 j d (omega arith))
rise_at least (w ∷ ws) a (suc i) (suc j) d less lt = rise_at (w.place + 1) ws a.2 i j d (omega arith) (omega arith)

pub places_rise : (ws : List Word) → AreWords 0 ws → IsNonDecreasingBy (λ w. w.place) ws
places_rise ws a i j d le lt = elim (cases_eq i j) [
  | inl same ↦ omega (arith, ap (λ k. (get_or ws k d).place) same)
  | inr other ↦ omega (arith, rise_at 0 ws a i j d (omega arith) lt)
]

pub word_at : (least : ℕ) (ws : List Word) → AreWords least ws → (k : ℕ) (d : Word) → k < length ws → IsWord (get_or ws k d)
word_at least [] a k d lt = absurd (omega arith)
word_at least (w ∷ ws) a zero d lt = record { place = omega (arith, words_end (w.place + 1) ws a.2); fits = a.1 }
word_at least (w ∷ ws) a (suc k) d lt = word_at (w.place + 1) ws a.2 k d (omega arith)

lower : (m n : ℕ) (ws : List Word) → n ≤ m → AreWords m ws → AreWords n ws
lower m n [] le a = omega (arith, a)
lower m n (w ∷ ws) le a = (omega (arith, a.0), a.1, a.2)

pub set_words : (least : ℕ) (ws : List Word) (i : ℕ) (v d : Word) → AreWords least ws → i < length ws → v.place ≡ (get_or ws i d).place → v.bits < 2 ^ 64 → AreWords least (set ws i v)
set_words least [] i v d a lt here fits = absurd (omega arith)
set_words least (w ∷ ws) zero v d a lt here fits = (omega (arith, a.0, here), fits, subst (λ n. AreWords (n + 1) ws) (sym here) a.2)
set_words least (w ∷ ws) (suc i) v d a lt here fits = (a.0, a.1, set_words (w.place + 1) ws i v d a.2 (omega arith) here fits)

pub insert_words : (least : ℕ) (ws : List Word) (i : ℕ) (v : Word) → AreWords least ws → i ≤ length ws → IsWord v → least ≤ v.place → ((k : ℕ) (d : Word) → k < i → (get_or ws k d).place < v.place)
    → ((k : ℕ) (d : Word) → i ≤ k → k < length ws → v.place < (get_or ws k d).place) → AreWords least (insert ws i v)
insert_words least [] zero v a within is le before behind = (le, is.fits, omega (arith, is.place))
insert_words least [] (suc i) v a within is le before behind = absurd (omega arith)
insert_words least (w ∷ ws) zero v a within is le before behind = (le, is.fits, (omega (arith, behind 0 w (omega arith) (omega arith)), a.1, a.2))
insert_words least (w ∷ ws) (suc i) v a within is le before behind = (
  a.0,
  a.1,
  insert_words (w.place + 1) ws i v a.2 (omega arith) is (omega (arith, before 0 w (omega arith)))
      (λ k d lt. before (suc k) d (omega arith)) (λ k d le lt. behind (suc k) d (omega arith) (omega arith)),
)

-- without those that are empty
pub filled_words : (least : ℕ) (ws : List Word) → AreWords least ws → AreWords least (filter has_cells ws)
filled_words least [] a = a
filled_words least (w ∷ ws) a = by (has_cells w) refl (filled_words (w.place + 1) ws a.2) where
  by : (b : Bool) → has_cells w ≡ b → AreWords (w.place + 1) (filter has_cells ws) → AreWords least (filter has_cells (w ∷ ws))
  by true e later = rw e (a.0, a.1, later)
  by false e later = rw e (lower (w.place + 1) least (filter has_cells ws) (omega (arith, a.0)) later)

-- ---- seats

pub seat_none : (place : ℕ) (ws : List Word) → length ws ≡ 0 → IsSeat place ws 0
seat_none place ws none = record { within = omega arith; before = λ k d lt. absurd (omega arith); behind = λ k d le lt. absurd (omega arith) }

pub seat_behind : (place last : ℕ) (ws : List Word) (d : Word) → AreWords 0 ws → last + 1 ≡ length ws → (get_or ws last d).place < place → IsSeat place ws (last + 1)
seat_behind place last ws d a is lt = record {
  within = omega arith;
  before = λ k e below. let le = places_rise ws a k last e (omega arith) (omega arith) in omega (arith, le, lt, same e);
  behind = λ k e le below. absurd (omega arith);
} where
  same : (e : Word) → (get_or ws last e).place ≡ (get_or ws last d).place
  same e = ap (λ (w : Word). w.place) (get_or_default ws last e d (omega arith))

pub seat_last : (place last : ℕ) (ws : List Word) (d : Word) → AreWords 0 ws → last + 1 ≡ length ws → (get_or ws last d).place ≡ place → IsSeat place ws last
seat_last place last ws d a is at = record {
  within = omega arith;
  before = λ k e below. omega (arith, rise_at 0 ws a k last e below (omega arith), at, same e);
  behind = λ k e le below. let here : k ≡ last = omega arith in omega (arith, ap (λ i. (get_or ws i e).place) here, at, same e);
} where
  same : (e : Word) → (get_or ws last e).place ≡ (get_or ws last d).place
  same e = ap (λ (w : Word). w.place) (get_or_default ws last e d (omega arith))

-- ---- where a word stands

pub seat_found : (place : ℕ) (ws : List Word) (i : ℕ) → IsPartitionPoint (λ w. ltb w.place place ≡ true) (λ w. ltb w.place place ≡ false) ws i → i ≤ length ws → IsSeat place ws i
seat_found place ws i parted within = record {
  within = within;
  before = λ k d lt. (Decides-ltb (get_or ws k d).place place).0 (parted.0 k d (omega arith) lt);
  behind = λ k d le lt. not_less (get_or ws k d).place place (parted.1 k d le lt);
} where
  not_less : (m n : ℕ) → ltb m n ≡ false → n ≤ m
  not_less m n h = elim (cases_lt m n) [
    | inl lt ↦ let yes : ltb m n ≡ true = (Decides-ltb m n).1 lt in absurd (cc)
    | inr le ↦ omega arith
  ]

-- no word has the place
pub no_word : (place : ℕ) (ws : List Word) (i : ℕ) → AreWords 0 ws → IsSeat place ws i → ((d : Word) → i < length ws → (get_or ws i d).place ≡ place → ⊥) → (k : ℕ) (d : Word) → k < length ws → place ≡ (get_or ws k d).place → ⊥
no_word place ws i a seat absent k d lt e = elim (cases_order k i) [
  | inl same ↦ absent d (omega (arith, same)) (sym (e ∙ ap (λ j. (get_or ws j d).place) same))
  | inr (inl less) ↦ omega (arith, seat.before k d less, e)
  | inr (inr more) ↦ omega (arith, seat.behind i d (omega arith) (omega arith), rise_at 0 ws a i k d more lt, e)
]
