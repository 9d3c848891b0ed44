-- A list that is looked through outwards from a place.
use Rattle.std.proofs.Common.{◌≡◌, ℕ, zero, suc, ◌<◌, ◌≤◌, ◌+◌, ◌-◌, List, [], ◌∷◌, length, get_or, Bool, true, false, ◌||◌, inl, inr, refl, ap, arith}
use Rattle.std.proofs.Math.Bool.{or-true}
use Rattle.std.proofs.lemmas.Bool.{cases_lt}
use Rattle.serde_json.specs.Data.{Data}
use Rattle.serde_json.specs.View.{items_view, view}
use Rattle.serde_json.specs.declared.value.Value.{Value}
use Rattle.script_matching.specs.Matching.{any_item, fits}
use Rattle.script_matching.specs.proofs_only.Around.{is_part_at}

-- none of the members that lie nearer than so many steps is what is looked for
abbrev pub IsPassed : Data → List Value → ℕ → ℕ → Type 0
IsPassed d vs near steps = (n : ℕ) → near < n + steps → n < near + steps → is_part_at d vs n ≡ false

-- behind the end there is none
pub past_end : (d : Data) (vs : List Value) (n : ℕ) → length vs ≤ n → is_part_at d vs n ≡ false
past_end d [] n le = refl
past_end d (v ∷ vs) zero le = absurd (omega (arith, le))
past_end d (v ∷ vs) (suc n) le = past_end d vs n (omega (arith, le))

-- the one at a place
pub part_there : (d : Data) (vs : List Value) (n : ℕ) (v : Value) → n < length vs → v ≡ get_or vs n v → fits false d (view v) ≡ is_part_at d vs n
part_there d [] n v lt is = absurd (omega (arith, lt))
part_there d (w ∷ vs) zero v lt is = ap (λ x. fits false d (view x)) is
part_there d (w ∷ vs) (suc n) v lt is = part_there d vs n v (omega (arith, lt)) is

-- where none is at any place, none is
none_at_all : (d : Data) (vs : List Value) → ((n : ℕ) → is_part_at d vs n ≡ false) → any_item (fits false d) (items_view vs) ≡ false
none_at_all d [] h = refl
none_at_all d (v ∷ vs) h = rw (h 0, none_at_all d vs (λ n. h (suc n))) refl

-- where one is at a place, one is
pub one_there : (d : Data) (vs : List Value) (n : ℕ) → is_part_at d vs n ≡ true → any_item (fits false d) (items_view vs) ≡ true
one_there d [] n h = absurd cc
one_there d (v ∷ vs) zero h = rw h refl
one_there d (v ∷ vs) (suc n) h = rw (one_there d vs n h) (or-true (fits false d (view v)))

pub none_passed : (d : Data) (vs : List Value) (near steps : ℕ) → near ≤ length vs - 1 → length vs ≤ steps → IsPassed d vs near steps → any_item (fits false d) (items_view vs) ≡ false
none_passed d vs near steps le past passed = none_at_all d vs (λ n. elim (cases_lt n (length vs)) [
  | inl lt ↦ passed n (omega (arith, le, past, lt)) (omega (arith, le, past, lt))
  | inr ge ↦ past_end d vs n ge
])

-- one step more
pub passed_more : (d : Data) (vs : List Value) (near steps : ℕ) → IsPassed d vs near steps → is_part_at d vs (near + steps) ≡ false → is_part_at d vs (near - steps) ≡ false
    → IsPassed d vs near (steps + 1)
passed_more d vs near steps passed behind before n low high =
    elim (cases_lt n (near + steps)) [
      | inr ge ↦ let e : n ≡ near + steps = omega (arith, ge, high) in rw e behind
      | inl lt ↦ elim (cases_lt near (n + steps)) [
        | inl lt' ↦ passed n lt' lt
        | inr ge ↦ let e : n ≡ near - steps = omega (arith, ge, low) in rw e before
      ]
    ]
