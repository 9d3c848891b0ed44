-- Lists in blocks, and slabs of which some keys are cleared.
use Rattle.std.proofs.Common.{◌≡◌, inl, inr, ℕ, zero, suc, ◌+◌, ◌-◌, ◌<◌, ◌≤◌, List, [], ◌∷◌, ◌++◌, take, drop, length, Option, None, Bool, cond, refl, sym, ap, ◌∙◌, arith, append-nil, append_assoc}
use Rattle.std.proofs.lemmas.Bool.{eq-eqb}
use Rattle.std.proofs.lemmas.Bool.Decides.{eqb_tells}
use Rattle.std.proofs.lemmas.List.{drop_all, length-append, length-drop, take-append-drop, take_all}
use Rattle.slab.specs.Slab.{Slab, get, Updates}
use Rattle.ent_cells.specs.Grid.{times}
use Rattle.ent_cells.specs.Shape.{woven, taken_out, without, left_after, left_of}

pub times-append : (q : ℕ) (xs ys : List ℕ) → times q (xs ++ ys) ≡ times q xs + times q ys
times-append q [] ys = omega arith
times-append q (x ∷ xs) ys = omega (arith, times-append q xs ys)

module _ {A : Type 0} where
  pub left_none : (n : ℕ) (o : Option A) → 0 < n → left_after n o ≡ None
  left_none zero o h = absurd (omega arith)
  left_none (suc n) o h = refl

  joined : (a b : ℕ) (x : Option A) → left_after b (left_after a x) ≡ left_after (a + b) x
  joined zero zero x = refl
  joined zero (suc b) x = sym (left_none (0 + suc b) x (omega arith))
  joined (suc a) zero x = sym (left_none (suc a + 0) x (omega arith))
  joined (suc a) (suc b) x = sym (left_none (suc a + suc b) x (omega arith))

  -- some keys are cleared and then others
  pub left-append : (s t : Slab A) (xs ys : List ℕ) → ((q : ℕ) → get t q ≡ left_of s xs q) → (q : ℕ) → left_of t ys q ≡ left_of s (xs ++ ys) q
  left-append s t xs ys h q =
      ap (λ (o : Option A). left_after (times q ys) o) (h q)
      ∙ joined (times q xs) (times q ys) (get s q)
      ∙ ap (λ (n : ℕ). left_after n (get s q)) (sym (times-append q xs ys))

  pub left_one : (t u : Slab A) (k : ℕ) → Updates t u k None → (q : ℕ) → get u q ≡ left_of t (k ∷ []) q
  left_one t u k up q = elim (eqb_tells q k) [
    | inl p ↦
        ap (get u) p.1 ∙ up.changed ∙ sym (ap (λ (b : Bool). left_after (cond b 1 0 + 0) (get t q)) (eq-eqb q k p.1))
    | inr p ↦ up.others q p.1 ∙ sym (ap (λ (b : Bool). left_after (cond b 1 0 + 0) (get t q)) p.0)
  ]

  pub left_more : (s t u : Slab A) (xs : List ℕ) (k : ℕ) → ((q : ℕ) → get t q ≡ left_of s xs q) → Updates t u k None → (q : ℕ) → get u q ≡ left_of s (xs ++ k ∷ []) q
  left_more s t u xs k h up q = left_one t u k up q ∙ left-append s t xs (k ∷ []) h q

-- one block more
pub step_down : (n i : ℕ) → i < n → n - i ≡ suc (n - (i + 1))
step_down n i h = omega arith

-- a place of the loops: one block, and those behind it
pub taken_out_step : {A : Type 0} (n i w o count : ℕ) (xs : List A) → i < n → taken_out (n - i) w o count xs ≡ take count (drop o (take w xs)) ++ taken_out (n - (i + 1)) w o count (drop w xs)
taken_out_step n i w o count xs h = ap (λ (m : ℕ). taken_out m w o count xs) (step_down n i h)

pub woven_step : {A : Type 0} (n i w count : ℕ) (xs ys : List A) → i < n → woven (n - i) w count xs ys ≡ take w xs ++ (take count ys ++ woven (n - (i + 1)) w count (drop w xs) (drop count ys))
woven_step n i w count xs ys h = ap (λ (m : ℕ). woven m w count xs ys) (step_down n i h)

pub halves : {A : Type 0} (w : ℕ) (xs : List A) → length (take w xs) + length (drop w xs) ≡ length xs
halves w xs = sym (length-append (take w xs) (drop w xs)) ∙ ap length (take-append-drop w xs)

-- no more is left than there was
pub length-without : {A : Type 0} (m w o n : ℕ) (xs : List A) → length (without m w o n xs) ≤ length xs
length-without zero w o n xs = omega arith
length-without {A} (suc m) w o n xs =
    let b : List A = take w xs in
    let d : List A = drop o b in
    let rest : List A = without m w o n (drop w xs) in
    omega (arith, length-append (take o b) (drop n d ++ rest), length-append (drop n d) rest, halves w xs, halves o b, halves n d, length-without m w o n (drop w xs))

-- all that stands behind a place is one block
pub behind : {A : Type 0} (n len : ℕ) (xs : List A) → length xs ≤ n → taken_out 1 n len n xs ≡ drop len xs
behind {A} n len xs long =
    append-nil (take n (drop len (take n xs)))
    ∙ ap (λ (ys : List A). take n (drop len ys)) (take_all n xs long)
    ∙ take_all n (drop len xs) (omega (arith, length-drop len xs))

pub before : {A : Type 0} (n len : ℕ) (xs : List A) → length xs ≤ n → without 1 n len n xs ≡ take len xs
before {A} n len xs long =
    (λ j. take len (take_all n xs long j) ++ (drop n (drop len (take_all n xs long j)) ++ drop_all n xs long j))
    ∙ ap (λ (ys : List A). take len xs ++ (ys ++ [])) (drop_all n (drop len xs) (omega (arith, length-drop len xs)))
    ∙ append-nil (take len xs)

pub block_step : {A : Type 0} (s t u : Slab A) (n i w o count : ℕ) (keys rest gone later : List ℕ) → i < n → gone ≡ take count (drop o (take w rest)) → later ≡ drop w rest → ((q : ℕ) → left_of t (taken_out (n - i) w o count rest) q ≡ left_of s keys q) → ((q : ℕ) → get u q ≡ left_of t gone q) → (q : ℕ) → left_of u (taken_out (n - (i + 1)) w o count later) q ≡ left_of s keys q
block_step s t u n i w o count keys rest gone later h is_gone is_later so_far cleared q =
    left-append t u gone (taken_out (n - (i + 1)) w o count later) cleared q
    ∙ ap (λ (ks : List ℕ). left_of t ks q) ((λ j. is_gone j ++ taken_out (n - (i + 1)) w o count (is_later j)) ∙ sym (taken_out_step n i w o count rest h))
    ∙ so_far q

pub weave_step : (n i w count : ℕ) (room keys added first second block next keys' added' target : List ℕ) → i < n → first ≡ room ++ block → second ≡ first ++ next → block ≡ take w keys → keys' ≡ drop w keys → next ≡ take count added → added' ≡ drop count added → room ++ woven (n - i) w count keys added ≡ target → second ++ woven (n - (i + 1)) w count keys' added' ≡ target
weave_step n i w count room keys added first second block next keys' added' target h f s b k x a e =
    let rest : List ℕ = woven (n - (i + 1)) w count keys' added' in
    ap (λ (xs : List ℕ). xs ++ rest) (s ∙ ap (λ (xs : List ℕ). xs ++ next) f)
    ∙ append_assoc (room ++ block) next rest
    ∙ append_assoc room block (next ++ rest)
    ∙ ap (λ (xs : List ℕ). room ++ xs) ((λ j. b j ++ (x j ++ woven (n - (i + 1)) w count (k j) (a j))) ∙ sym (woven_step n i w count keys added h))
    ∙ e
