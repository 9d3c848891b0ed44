-- Cells that are put into words or taken out of them.
use Rattle.std.proofs.Common.{◌≡◌, ℕ, ◌+◌, ◌-◌, ◌*◌, ◌/◌, ◌%◌, ◌^◌, ◌<◌, ◌≤◌, Bool, true, false, List, [], ◌∷◌, ◌++◌, ◌⊎◌, length, get_or, take, set, nat_eq, refl, sym, ap, subst, ◌∙◌, arith, inl, inr, mod-lt, zero-lt-suc}
use Rattle.std.specs.Prelude.{◌||◌, bit_and, bit_or}
use Rattle.std.specs.Int.{bit_at, bit_not, w64}
use Rattle.std.specs.List.{insert, remove}
use Rattle.std.specs.Ordering.{is_eq, nat_cmp}
use Rattle.std.proofs.lemmas.Bool.{cases_eq}
use Rattle.std.proofs.lemmas.Bool.Decides.{Decides-eqb}
use Rattle.std.proofs.lemmas.List.{append-nil, append_assoc, get_or-set_same, length-set, take_all, take_more}
use Rattle.std.proofs.lemmas.List.Concat.{flat_map-append}
use Rattle.std.proofs.lemmas.List.Folds.{list_any-append}
use Rattle.std.proofs.lemmas.Nat.{and_le_l, le_or_l, pow_pos, one_shl, or_lt}
use Rattle.std.proofs.lemmas.Nat.Bits.{bit_at-pow_other, bit_at-pow_same, bit_at_and, bit_at_clear_other, bit_at_clear_same, bit_at_or}
use lib.Count.{count_trailing_zeros, ones}
use Rattle.ent_index.proofs.Bits.{ones_within, set_lowest}
use Rattle.ent_index.specs.Groups.{is_member}
use Rattle.ent_index.specs.Rolls.{cells_in, cells_of, set_from}
use Rattle.ent_index.specs.proofs_only.Rolls.{AreWords, IsSeat, IsWord, has_cells}
use Rattle.ent_index.specs.declared.words.Word.{Word}
use Rattle.ent_index.proofs.Placed.{insert_words, no_word, set_words, word_at}
use Rattle.ent_index.proofs.WordCells.{both_ways, in_word, insert_count, kept_members, length-cells_in, member_there, no_cells, of_word, or_assoc, or_none, or_right, set_count, set_members, unequal, word_joined, word_kept}

-- ---- bits that are put in or taken out

abbrev pub with_bits : Word → ℕ → Word
with_bits w bits = record { place = w.place; bits = bits }

abbrev pub bits_left : Word → ℕ → ℕ
bits_left w bit = bit_and w.bits (bit_not w64 (1 * 2 ^ bit % 2 ^ 64))

left_fits : (w : Word) (bit : ℕ) → IsWord w → bits_left w bit < 2 ^ 64
left_fits w bit is = omega (arith, and_le_l w.bits (bit_not w64 (1 * 2 ^ bit % 2 ^ 64)), is.fits)

module _ (ws : List Word) (i : ℕ) (w : Word) (a : AreWords 0 ws) (lt : i < length ws) (read : w ≡ get_or ws i w) where
  is : IsWord w
  is = subst IsWord (sym read) (word_at 0 ws a i w lt)

  place_here : w.place ≡ (get_or ws i w).place
  place_here = ap (λ (x : Word). x.place) read

  count_here : length (cells_in (get_or ws i w)) ≡ ones w.bits
  count_here = ap (λ x. length (cells_in x)) (sym read) ∙ length-cells_in w is.fits

  module _ (v : Word) (at : w.place ≡ v.place) (word : IsWord v) where
    pub put_fewer : ones w.bits ≤ ones (bit_or w.bits v.bits)
    put_fewer = ones_within 64 w.bits (bit_or w.bits v.bits) is.fits (λ k. omega (arith, bit_at_or w.bits v.bits k))

    joined_fits : bit_or w.bits v.bits < 2 ^ 64
    joined_fits = or_lt 64 w.bits v.bits is.fits word.fits

    pub put_words : AreWords 0 (set ws i (with_bits w (bit_or w.bits v.bits)))
    put_words = set_words 0 ws i (with_bits w (bit_or w.bits v.bits)) w a lt place_here joined_fits

    pub put_cells : (c : ℕ) → is_member (cells_of (set ws i (with_bits w (bit_or w.bits v.bits)))) c ≡ (is_member (cells_of ws) c || is_member (cells_in v) c)
    put_cells c =
        set_members c (is_member (cells_in v) c) ws i (with_bits w (bit_or w.bits v.bits)) w lt
        (word_joined w v (with_bits w (bit_or w.bits v.bits)) (sym at) refl (bit_at_or w.bits v.bits) c ∙ ap (λ x. is_member (cells_in x) c || is_member (cells_in v) c) read)

    pub put_count : length (cells_of (set ws i (with_bits w (bit_or w.bits v.bits)))) ≡ length (cells_of ws) + (ones (bit_or w.bits v.bits) - ones w.bits)
    put_count = omega (arith, set_count ws i (with_bits w (bit_or w.bits v.bits)) w lt, count_here, length-cells_in (with_bits w (bit_or w.bits v.bits)) joined_fits, put_fewer)

  module _ (cell : ℕ) (at : w.place ≡ cell / 64) where
    low : cell % 64 < 64
    low = mod-lt cell (zero-lt-suc 63)

    pub take_fewer : ones (bits_left w (cell % 64)) ≤ ones w.bits
    take_fewer =
        ones_within 64 (bits_left w (cell % 64)) w.bits (left_fits w (cell % 64) is) (λ k. omega (arith, bit_at_and w.bits (bit_not w64 (1 * 2 ^ (cell % 64) % 2 ^ 64)) k))

    take_kept : (c : ℕ) → nat_eq c cell ≡ false → is_member (cells_in (with_bits w (bits_left w (cell % 64)))) c ≡ is_member (cells_in w) c
    take_kept c other =
        word_kept w (with_bits w (bits_left w (cell % 64))) (cell % 64) refl (λ k k_low apart. bit_at_clear_other w64 w.bits (cell % 64) low k k_low apart) c
        (λ e. unequal c cell other (omega (arith, e, at)))

    pub take_words : AreWords 0 (set ws i (with_bits w (bits_left w (cell % 64))))
    take_words = set_words 0 ws i (with_bits w (bits_left w (cell % 64))) w a lt place_here (left_fits w (cell % 64) is)

    pub take_cells : (c : ℕ) → nat_eq c cell ≡ false → is_member (cells_of (set ws i (with_bits w (bits_left w (cell % 64))))) c ≡ is_member (cells_of ws) c
    take_cells c other = kept_members c ws i (with_bits w (bits_left w (cell % 64))) w lt (take_kept c other ∙ ap (λ x. is_member (cells_in x) c) read)

    taken_out : is_member (cells_in (with_bits w (bits_left w (cell % 64)))) cell ≡ false
    taken_out = by (is_member (cells_in (with_bits w (bits_left w (cell % 64)))) cell) refl where
      by : (b : Bool) → is_member (cells_in (with_bits w (bits_left w (cell % 64)))) cell ≡ b → is_member (cells_in (with_bits w (bits_left w (cell % 64)))) cell ≡ false
      by true e = absurd (omega (arith, (in_word (with_bits w (bits_left w (cell % 64))) cell e).1, bit_at_clear_same w64 w.bits (cell % 64) low))
      by false e = e

    pub take_gone : is_member (cells_of (set ws i (with_bits w (bits_left w (cell % 64))))) cell ≡ false
    take_gone =
        let left = with_bits w (bits_left w (cell % 64)) in
        let here : get_or (set ws i left) i w ≡ left = get_or-set_same ws i left w lt in
        member_there 0 (set ws i left) i cell w take_words (omega (arith, lt, length-set ws i left)) (sym at ∙ sym (ap (λ (x : Word). x.place) here))
        ∙ ap (λ x. is_member (cells_in x) cell) here ∙ taken_out

    pub take_count : length (cells_of ws) ≡ length (cells_of (set ws i (with_bits w (bits_left w (cell % 64))))) + (ones w.bits - ones (bits_left w (cell % 64)))
    take_count =
        omega (
          arith,
          set_count ws i (with_bits w (bits_left w (cell % 64))) w lt,
          count_here,
          length-cells_in (with_bits w (bits_left w (cell % 64))) (left_fits w (cell % 64) is),
          take_fewer,
        )

-- ---- one bit

pub put_there : (before : Bool) (cell : ℕ) → (before || nat_eq cell cell) ≡ true
put_there before cell = or_right before (nat_eq cell cell) ((Decides-eqb cell cell).1 refl)

pub one_word : (cell : ℕ) → cell < 2 ^ 32 → IsWord (record { place = cell / 64; bits = 1 * 2 ^ (cell % 64) % 2 ^ 64 })
one_word cell fits = record {
  place = omega arith;
  fits = omega arith;
}

pub one_cell : (cell c : ℕ) → is_member (cells_in (record { place = cell / 64; bits = 1 * 2 ^ (cell % 64) % 2 ^ 64 })) c ≡ nat_eq c cell
one_cell cell c = both_ways _ _ there back where
  w : Word
  w = record { place = cell / 64; bits = 1 * 2 ^ (cell % 64) % 2 ^ 64 }

  shifted : 1 * 2 ^ (cell % 64) % 2 ^ 64 ≡ 2 ^ (cell % 64)
  shifted = one_shl (cell % 64) 64 (mod-lt cell (zero-lt-suc 63))

  there : is_member (cells_in w) c ≡ true → nat_eq c cell ≡ true
  there h =
      let p = in_word w c h in
      (Decides-eqb c cell).1 (elim (cases_eq (c % 64) (cell % 64)) [
        | inl same ↦ omega (arith, same, p.0)
        | inr other ↦ absurd (omega (arith, bit_at-pow_other (cell % 64) (c % 64) other, sym (ap (λ n. bit_at n (c % 64)) shifted) ∙ p.1))
      ])

  back : nat_eq c cell ≡ true → is_member (cells_in w) c ≡ true
  back h =
      let same : c ≡ cell = (Decides-eqb c cell).0 h in
      of_word w c (ap (λ n. n / 64) same) (ap (λ n. bit_at (1 * 2 ^ (cell % 64) % 2 ^ 64) (n % 64)) same ∙ ap (λ n. bit_at n (cell % 64)) shifted ∙ bit_at-pow_same (cell % 64))

-- ---- a new word

module _ (v : Word) (ws : List Word) (i : ℕ) (a : AreWords 0 ws) (seat : IsSeat v.place ws i) (absent : (d : Word) → i < length ws → (get_or ws i d).place ≡ v.place → ⊥) (is : IsWord v) where
  behind : (k : ℕ) (d : Word) → i ≤ k → k < length ws → v.place < (get_or ws k d).place
  behind k d le lt = elim (cases_eq (get_or ws k d).place v.place) [
    | inl same ↦ absurd (no_word v.place ws i a seat absent k d lt (sym same))
    | inr other ↦ omega (arith, seat.behind k d le lt, other)
  ]

  pub new_words : AreWords 0 (insert ws i v)
  new_words = insert_words 0 ws i v a seat.within is (omega arith) seat.before behind

  pub new_count : length (cells_of (insert ws i v)) ≡ length (cells_of ws) + ones v.bits
  new_count = omega (arith, insert_count ws i v, length-cells_in v is.fits)

-- ---- the cells of a word one after another

pub push_more : (w : Word) (bits : ℕ) (old now more : List ℕ) (x : ℕ) → 0 < bits → bits < 2 ^ 64 → x ≡ 64 * w.place + count_trailing_zeros 64 bits → more ≡ now ++ x ∷ []
    → now ++ cells_in (with_bits w bits) ≡ old ++ cells_in w → more ++ cells_in (with_bits w (bit_and bits (bits - 1))) ≡ old ++ cells_in w
unfolding cells_in
push_more w bits old now more x some fits is pushed so_far =
    ap (λ xs. xs ++ set_from 64 (64 * w.place) (bit_and bits (bits - 1))) pushed ∙ append_assoc now (x ∷ []) (set_from 64 (64 * w.place) (bit_and bits (bits - 1)))
    ∙ ap (λ y. now ++ y ∷ set_from 64 (64 * w.place) (bit_and bits (bits - 1))) is ∙ ap (λ ys. now ++ ys) (sym (set_lowest 64 (64 * w.place) bits some fits)) ∙ so_far

pub push_done : (w : Word) (bits : ℕ) (old now : List ℕ) → bits ≡ 0 → now ++ cells_in (with_bits w bits) ≡ old ++ cells_in w → now ≡ old ++ cells_in w
push_done w bits old now none so_far = sym (append-nil now) ∙ ap (λ ys. now ++ ys) (sym (no_cells (with_bits w bits) none)) ∙ so_far

-- ---- the loops over words

first_cells : (ws : List Word) (i : ℕ) (w : Word) → i < length ws → w ≡ get_or ws i w → cells_of (take (i + 1) ws) ≡ cells_of (take i ws) ++ cells_in w
first_cells ws i w lt at =
    ap cells_of (take_more ws i w lt) ∙ flat_map-append cells_in (take i ws) (get_or ws i w ∷ []) ∙ ap (λ ys. cells_of (take i ws) ++ ys) (append-nil (cells_in (get_or ws i w)))
    ∙ ap (λ x. cells_of (take i ws) ++ cells_in x) (sym at)

pub pushed_more : (ws : List Word) (i : ℕ) (w : Word) (old now next : List ℕ) → i < length ws → w ≡ get_or ws i w → now ≡ old ++ cells_of (take i ws) → next ≡ now ++ cells_in w → next ≡ old ++ cells_of (take (i + 1) ws)
pushed_more ws i w old now next lt at so_far pushed =
    pushed ∙ ap (λ ys. ys ++ cells_in w) so_far ∙ append_assoc old (cells_of (take i ws)) (cells_in w) ∙ ap (λ ys. old ++ ys) (sym (first_cells ws i w lt at))

pub all_pushed : (ws : List Word) (i : ℕ) (old now : List ℕ) → length ws ≤ i → now ≡ old ++ cells_of (take i ws) → now ≡ old ++ cells_of ws
all_pushed ws i old now past so_far = so_far ∙ ap (λ xs. old ++ cells_of xs) (take_all i ws past)

pub put_none : (old : List ℕ) (c : ℕ) → is_member old c ≡ (is_member old c || false)
put_none old c = sym (or_none (is_member old c))

pub put_more : (ws : List Word) (i : ℕ) (w : Word) (old now next : List ℕ) → i < length ws → w ≡ get_or ws i w → ((c : ℕ) → is_member now c ≡ (is_member old c || is_member (cells_of (take i ws)) c))
    → ((c : ℕ) → is_member next c ≡ (is_member now c || is_member (cells_in w) c)) → (c : ℕ) → is_member next c ≡ (is_member old c || is_member (cells_of (take (i + 1) ws)) c)
put_more ws i w old now next lt at so_far put c =
    put c ∙ ap (λ b. b || is_member (cells_in w) c) (so_far c) ∙ sym (or_assoc (is_member old c) (is_member (cells_of (take i ws)) c) (is_member (cells_in w) c))
    ∙ ap (λ b. is_member old c || b) (sym (ap (λ ys. is_member ys c) (first_cells ws i w lt at) ∙ list_any-append (λ x. is_eq (nat_cmp c x)) (cells_of (take i ws)) (cells_in w)))

pub all_put : (ws : List Word) (i : ℕ) (old now : List ℕ) → length ws ≤ i → ((c : ℕ) → is_member now c ≡ (is_member old c || is_member (cells_of (take i ws)) c)) → (c : ℕ) → is_member now c ≡ (is_member old c || is_member (cells_of ws) c)
all_put ws i old now past so_far c = so_far c ∙ ap (λ xs. is_member old c || is_member (cells_of xs) c) (take_all i ws past)
