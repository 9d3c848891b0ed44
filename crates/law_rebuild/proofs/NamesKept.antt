-- Lists of names stay sound.
use Rattle.std.proofs.Common.{◌≡◌, ℕ, ◌<◌, ◌≤◌, Bool, true, false, List, [], ◌∷◌, ◌++◌, length, refl, arith}
use Rattle.std.specs.Prelude.{◌||◌, bytes_eq, cond, filter, nat_eq, not}
use Rattle.std.specs.Cmp.Lexicographic.{pointwise}
use Rattle.std.specs.List.{AllByRecursion, IsDistinct}
use Rattle.std.proofs.lemmas.List.{length-append}
use Rattle.ent_policy.specs.Names.{is_bad_name}
use Rattle.ent_table.specs.Names.{has_name, others}
use Rattle.law_rebuild.specs.Sound.{AreSoundNames}
use Rattle.law_rebuild.proofs.Named.{flipped}

pub both_false : (a b : Bool) → (a || b) ≡ false → (a ≡ false) × (b ≡ false)
both_false true b h = cc
both_false false b h = (refl, h)

pub all_push : {A : Type 0} (P : A → Type 0) (xs : List A) (x : A) → AllByRecursion P xs → P x → AllByRecursion P (xs ++ x ∷ [])
all_push P [] x h p = (p, tt)
all_push P (y ∷ xs) x h p = (h.0, all_push P xs x h.1 p)

distinct_push : (xs : List (List ℕ)) (x : List ℕ) → IsDistinct bytes_eq xs → has_name x xs ≡ false → IsDistinct bytes_eq (xs ++ x ∷ [])
unfolding IsDistinct
distinct_push [] x h new = (tt, tt)
distinct_push (y ∷ xs) x h new =
    let parts = both_false (pointwise nat_eq x y) (has_name x xs) new in
    (all_push (λ z. bytes_eq y z ≡ false) xs x h.0 (flipped x y parts.0), distinct_push xs x h.1 parts.1)

pub no_name_sound : (limit : ℕ) → AreSoundNames [] limit
unfolding IsDistinct
no_name_sound limit = record { distinct = tt; good = tt; most = omega arith }

-- with a new name put last
pub name_more_sound : (xs : List (List ℕ)) (limit : ℕ) (x : List ℕ) → AreSoundNames xs limit → has_name x xs ≡ false → is_bad_name x ≡ false
    → length xs < limit → AreSoundNames (xs ++ x ∷ []) limit
name_more_sound xs limit x sound new good room = record {
  distinct = distinct_push xs x sound.distinct new;
  good = all_push (λ name. is_bad_name name ≡ false) xs x sound.good good;
  most = omega (arith, length-append xs (x ∷ []));
}

pub all_filter : {A : Type 0} (P : A → Type 0) (q : A → Bool) (xs : List A) → AllByRecursion P xs → AllByRecursion P (filter q xs)
all_filter P q [] h = tt
all_filter P q (x ∷ xs) h = by (q x) (all_filter P q xs h.1)
  where
    by : (b : Bool) → AllByRecursion P (filter q xs) → AllByRecursion P (cond b (x ∷ filter q xs) (filter q xs))
    by true rest = (h.0, rest)
    by false rest = rest

distinct_filter : (q : List ℕ → Bool) (xs : List (List ℕ)) → IsDistinct bytes_eq xs → IsDistinct bytes_eq (filter q xs)
unfolding IsDistinct
distinct_filter q [] h = tt
distinct_filter q (x ∷ xs) h = by (q x) (all_filter (λ z. bytes_eq x z ≡ false) q xs h.0) (distinct_filter q xs h.1)
  where
    by : (b : Bool) → AllByRecursion (λ z. bytes_eq x z ≡ false) (filter q xs) → IsDistinct bytes_eq (filter q xs)
        → IsDistinct bytes_eq (cond b (x ∷ filter q xs) (filter q xs))
    by true apart rest = (apart, rest)
    by false apart rest = rest

pub fewer_left : {A : Type 0} (q : A → Bool) (xs : List A) → length (filter q xs) ≤ length xs
fewer_left q [] = omega arith
fewer_left q (x ∷ xs) = by (q x) (fewer_left q xs)
  where
    by : (b : Bool) → length (filter q xs) ≤ length xs → length (cond b (x ∷ filter q xs) (filter q xs)) ≤ length (x ∷ xs)
    by true h = omega arith
    by false h = omega arith

-- without a name
pub name_less_sound : (xs : List (List ℕ)) (limit : ℕ) (x : List ℕ) → AreSoundNames xs limit → AreSoundNames (others x xs) limit
name_less_sound xs limit x sound = record {
  distinct = distinct_filter (λ y. not (pointwise nat_eq x y)) xs sound.distinct;
  good = all_filter (λ name. is_bad_name name ≡ false) (λ y. not (pointwise nat_eq x y)) xs sound.good;
  most = omega (arith, fewer_left (λ (y : List ℕ). not (pointwise nat_eq x y)) xs, sound.most);
}
