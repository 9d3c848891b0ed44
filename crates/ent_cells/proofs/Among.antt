-- Which numbers stand in a list, and how often.
use Rattle.std.proofs.Common.{◌≡◌, inl, inr, ℕ, suc, ◌+◌, ◌<◌, ◌≤◌, Bool, true, false, ◌||◌, cond, nat_eq, List, [], ◌∷◌, take, drop, filter, length, refl, sym, ap, subst, ◌∙◌, arith, slice_index_or as get_or}
use Rattle.std.proofs.lemmas.Bool.Decides.{eqb_tells}
use Rattle.std.proofs.lemmas.List.{take_more, take-append-drop, drop_more}
use Rattle.std.proofs.lemmas.List.Folds.{list_any-append}
use Rattle.ent_cells.specs.Grid.{times}
use Rattle.ent_cells.specs.proofs_only.Phases.{is_among}
use Rattle.ent_cells.proofs.Shapes.{times-append}

-- 1 for true
abbrev pub bit : Bool → ℕ
bit b = cond b 1 0

pub once_at_least : (x : ℕ) (xs : List ℕ) → 1 ≤ times x (x ∷ xs)
once_at_least x xs = elim (eqb_tells x x) [
  | inl p ↦ subst (λ (b : Bool). 1 ≤ cond b 1 0 + times x xs) (sym p.0) (omega arith)
  | inr p ↦ absurd (p.1 refl)
]

pub among_none : (ks : List ℕ) (c : ℕ) → times c ks ≡ 0 → is_among ks c ≡ false
among_none [] c h = refl
among_none (k ∷ ks) c h = elim (eqb_tells c k) [
  | inl p ↦ absurd (omega (arith, ap bit p.0, h))
  | inr p ↦ (λ j. p.0 j || among_none ks c (omega (arith, h)) j)
]

or_right : (a b : Bool) → b ≡ true → (a || b) ≡ true
or_right true b h = refl
or_right false b h = h

or_left : (a b : Bool) → a ≡ true → (a || b) ≡ true
or_left true b h = refl
or_left false b h = absurd (cc)

or_none : (a : Bool) → (a || false) ≡ a
or_none true = refl
or_none false = refl

pub among_some : (ks : List ℕ) (c : ℕ) → 1 ≤ times c ks → is_among ks c ≡ true
among_some [] c h = absurd (omega (arith, h))
among_some (k ∷ ks) c h = elim (eqb_tells c k) [
  | inl p ↦ or_left (nat_eq c k) (is_among ks c) p.0
  | inr p ↦ or_right (nat_eq c k) (is_among ks c) (among_some ks c (omega (arith, ap bit p.0, h)))
]

pub among_bit : (ks : List ℕ) (c : ℕ) (b : Bool) → times c ks ≡ bit b → is_among ks c ≡ b
among_bit ks c true h = among_some ks c (omega (arith, h))
among_bit ks c false h = among_none ks c h

-- one number more
pub among_more : (ks : List ℕ) (i c : ℕ) → i < length ks → is_among (take (i + 1) ks) c ≡ (is_among (take i ks) c || nat_eq c (get_or ks i 0))
among_more ks i c h =
    ap (λ (xs : List ℕ). is_among xs c) (take_more ks i 0 h)
    ∙ list_any-append (λ k. nat_eq c k) (take i ks) (get_or ks i 0 ∷ [])
    ∙ ap (λ (b : Bool). is_among (take i ks) c || b) (or_none (nat_eq c (get_or ks i 0)))

pub among_here : (ks : List ℕ) (i c : ℕ) → i < length ks → nat_eq c (get_or ks i 0) ≡ true → is_among (take (i + 1) ks) c ≡ true
among_here ks i c h e = among_more ks i c h ∙ or_right (is_among (take i ks) c) (nat_eq c (get_or ks i 0)) e

pub among_others : (ks : List ℕ) (i c : ℕ) → i < length ks → nat_eq c (get_or ks i 0) ≡ false → is_among (take (i + 1) ks) c ≡ is_among (take i ks) c
among_others ks i c h e = among_more ks i c h ∙ ap (λ (b : Bool). is_among (take i ks) c || b) e ∙ or_none (is_among (take i ks) c)

-- what stands in the front of a list stands in it
pub among_take : (ks : List ℕ) (i c : ℕ) → is_among (take i ks) c ≡ true → is_among ks c ≡ true
among_take ks i c h =
    ap (λ (xs : List ℕ). is_among xs c) (sym (take-append-drop i ks))
    ∙ list_any-append (λ k. nat_eq c k) (take i ks) (drop i ks)
    ∙ or_left (is_among (take i ks) c) (is_among (drop i ks) c) h

-- what stands in a list once doesn't stand before its place
pub first_times : (ks : List ℕ) (i : ℕ) → i < length ks → times (get_or ks i 0) ks ≤ 1 → times (get_or ks i 0) (take i ks) ≡ 0
first_times ks i within once =
    let k : ℕ = get_or ks i 0 in
    let parts : times k ks ≡ times k (take i ks) + times k (k ∷ drop (i + 1) ks) =
    ap (times k) (sym (take-append-drop i ks))
    ∙ times-append k (take i ks) (drop i ks)
    ∙ ap (λ (xs : List ℕ). times k (take i ks) + times k xs) (drop_more ks i 0 within) in
    omega (arith, parts, once_at_least k (drop (i + 1) ks), once)

pub first_time : (ks : List ℕ) (i : ℕ) → i < length ks → times (get_or ks i 0) ks ≤ 1 → is_among (take i ks) (get_or ks i 0) ≡ false
first_time ks i within once = among_none (take i ks) (get_or ks i 0) (first_times ks i within once)

-- ---- a number among those that pass
kept_by : (pass same : Bool) (n m : ℕ) → m ≡ cond pass n 0 → cond pass (cond same 1 0 + m) m ≡ cond pass (cond same 1 0 + n) 0
kept_by true same n m h = omega (arith, h)
kept_by false same n m h = h

other_by : (pass px same : Bool) (n m : ℕ) → same ≡ false → m ≡ cond pass n 0 → cond px (cond same 1 0 + m) m ≡ cond pass (cond same 1 0 + n) 0
other_by true true false n m s h = omega (arith, h)
other_by true false false n m s h = omega (arith, h)
other_by false true false n m s h = omega (arith, h)
other_by false false false n m s h = h
other_by pass px true n m s h = absurd (cc)

times_cond : (c : ℕ) (b : Bool) (x : ℕ) (ks : List ℕ) → times c (cond b (x ∷ ks) ks) ≡ cond b (cond (nat_eq c x) 1 0 + times c ks) (times c ks)
times_cond c true x ks = refl
times_cond c false x ks = refl

none_left : (b : Bool) (z : ℕ) → z ≡ cond b z z
none_left true z = refl
none_left false z = refl

pub times_filter : (p : ℕ → Bool) (c : ℕ) (ks : List ℕ) → times c (filter p ks) ≡ cond (p c) (times c ks) 0
times_filter p c [] = none_left (p c) 0
times_filter p c (x ∷ ks) = elim (eqb_tells c x) [
  | inl q ↦
      times_cond c (p x) x (filter p ks)
      ∙ ap (λ (b : Bool). cond b (cond (nat_eq c x) 1 0 + times c (filter p ks)) (times c (filter p ks))) (ap p (sym q.1))
      ∙ kept_by (p c) (nat_eq c x) (times c ks) (times c (filter p ks)) (times_filter p c ks)
  | inr q ↦
      times_cond c (p x) x (filter p ks)
      ∙ other_by (p c) (p x) (nat_eq c x) (times c ks) (times c (filter p ks)) q.0 (times_filter p c ks)
]

-- ---- lists with the same numbers are as long
abbrev less : ℕ → List ℕ → List ℕ
less x [] = []
less x (y ∷ ys) = cond (nat_eq x y) ys (y ∷ less x ys)

tail_some : (b : Bool) (n : ℕ) → b ≡ false → 1 ≤ bit b + n → 1 ≤ n
tail_some true n e h = absurd (cc)
tail_some false n e h = omega (arith, h)

less_length : (x : ℕ) (ys : List ℕ) → 1 ≤ times x ys → length ys ≡ suc (length (less x ys))
less_length x [] h = absurd (omega arith)
less_length x (y ∷ ys) h = elim (eqb_tells x y) [
  | inl p ↦ ap (λ (b : Bool). suc (length (cond b ys (y ∷ less x ys)))) (sym p.0)
  | inr p ↦ ap suc (less_length x ys (tail_some (nat_eq x y) (times x ys) p.0 h)) ∙ ap (λ (b : Bool). suc (length (cond b ys (y ∷ less x ys)))) (sym p.0)
]

less_times : (x q : ℕ) (ys : List ℕ) → 1 ≤ times x ys → times q ys ≡ bit (nat_eq q x) + times q (less x ys)
less_times x q [] h = absurd (omega arith)
less_times x q (y ∷ ys) h = elim (eqb_tells x y) [
  | inl p ↦
      ap (λ (n : ℕ). bit (nat_eq q n) + times q ys) (sym p.1)
      ∙ ap (λ (b : Bool). bit (nat_eq q x) + times q (cond b ys (y ∷ less x ys))) (sym p.0)
  | inr p ↦
      let rest : times q ys ≡ bit (nat_eq q x) + times q (less x ys) = less_times x q ys (tail_some (nat_eq x y) (times x ys) p.0 h) in
      let here : bit (nat_eq q y) + times q ys ≡ bit (nat_eq q x) + (bit (nat_eq q y) + times q (less x ys)) = omega (arith, rest) in
      here ∙ ap (λ (b : Bool). bit (nat_eq q x) + times q (cond b ys (y ∷ less x ys))) (sym p.0)
]

pub same_length : (xs ys : List ℕ) → ((q : ℕ) → times q xs ≡ times q ys) → length xs ≡ length ys
same_length [] [] h = refl
same_length [] (y ∷ ys) h = absurd (omega (arith, once_at_least y ys, h y))
same_length (x ∷ xs) ys h =
    let some : 1 ≤ times x ys = omega (arith, once_at_least x xs, h x) in
    let rest : length xs ≡ length (less x ys) = same_length xs (less x ys) (λ q. omega (arith, h q, less_times x q ys some)) in
    omega (arith, rest, less_length x ys some)
