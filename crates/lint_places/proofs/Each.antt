-- Each fault to which one comes is told.
use Rattle.std.proofs.Common.{◌≡◌, ℕ, zero, suc, ◌+◌, ◌<◌, ◌≤◌, Bool, true, false, not, ◌||◌, List, [], ◌∷◌, ◌++◌, length, get_or, map, Some, refl, sym, ap, subst, ◌∙◌, inl, inr, arith}
use Rattle.std.specs.Prelude.{bytes_eq}
use Rattle.std.specs.List.{list_any}
use Rattle.std.proofs.lemmas.Bool.{cases_eq}
use Rattle.std.proofs.lemmas.List.{get_or-map, length-map}
use Rattle.std.proofs.lemmas.List.Folds.{list_any-append}
use Rattle.std.proofs.lemmas.Slice.Eq.{bytes_eq-Decides}
use Rattle.lint_places.specs.Faults.{FaultAt, TellsEach, faulty, has_inside, is_looked_into, is_told_at}
use Rattle.lint_places.specs.Places.{inside, is_fault}
use Rattle.lint_places.specs.proofs_only.Walk.{TellsBelow, TellsMore}
use Rattle.lint_places.proofs.OwnLemmas.{any_of}

pub never : (b : Bool) → b ≡ true → b ≡ false → ⊥
never b x y = absurd (cc)

-- ---- one more

or_true : (b : Bool) → (b || true) ≡ true
or_true true = refl
or_true false = refl

pub told_more : (before : List FaultAt) (t : FaultAt) → TellsMore before (before ++ t ∷ [])
told_more before t pointer h =
    list_any-append (λ (x : FaultAt). bytes_eq x.1.pointer pointer) before (t ∷ []) ∙ ap (λ b. b || is_told_at (t ∷ []) pointer) h

pub told_here : (before : List FaultAt) (t : FaultAt) → is_told_at (before ++ t ∷ []) t.1.pointer ≡ true
told_here before t =
    list_any-append (λ (x : FaultAt). bytes_eq x.1.pointer t.1.pointer) before (t ∷ [])
    ∙ ap (λ b. is_told_at before t.1.pointer || (b || false)) ((bytes_eq-Decides t.1.pointer t.1.pointer).1 refl) ∙ or_true (is_told_at before t.1.pointer)

-- ---- what is told of parts, one after the other

tells_more : (from : FaultAt) (before after : List FaultAt) → TellsMore before after → TellsEach from before → TellsEach from after
tells_more from before after more each n t looks smallest = more t.1.pointer (each n t looks smallest)

pub nothing_below : (parts : List FaultAt) (is_cut : Bool) (all : List FaultAt) → TellsBelow 0 parts is_cut all
nothing_below parts is_cut all uncut k d lt = absurd (omega (arith, lt))

still : (before after : Bool) → (before ≡ true → after ≡ true) → after ≡ false → before ≡ false
still true after cuts uncut = absurd (never after (cuts refl) uncut)
still false after cuts uncut = refl

pub below_more : (i : ℕ) (parts : List FaultAt) (part : FaultAt) (was is : Bool) (before after : List FaultAt) → ((d : FaultAt) → get_or parts i d ≡ part) → (was ≡ true → is ≡ true)
    → TellsMore before after → (is ≡ false → TellsEach part after) → TellsBelow i parts was before → TellsBelow (i + 1) parts is after
below_more i parts part was is before after at cuts more here so_far uncut k d lt = elim (cases_eq k i) [
  | inl same ↦ subst (λ (x : FaultAt). TellsEach x after) (sym (ap (λ j. get_or parts j d) same ∙ at d)) (here uncut)
  | inr other ↦ tells_more (get_or parts k d) before after more (so_far (still was is cuts uncut) k d (omega (arith, other, lt)))
]

-- ---- what is told of a part, and of those inside

smallest_told : (from t : FaultAt) (all : List FaultAt) → t ≡ from → (has_inside from ≡ false → is_told_at all from.1.pointer ≡ true) → has_inside t ≡ false → is_told_at all t.1.pointer ≡ true
smallest_told from t all is here smallest =
    subst (λ (x : FaultAt). has_inside x ≡ false → is_told_at all x.1.pointer ≡ true) (sym is) here smallest

-- of a part that isn't looked into
pub stopped : (from : FaultAt) (all : List FaultAt) → is_looked_into from ≡ false → (has_inside from ≡ false → is_told_at all from.1.pointer ≡ true) → TellsEach from all
stopped from all skipped here zero t is smallest = smallest_told from t all is here smallest
stopped from all skipped here (suc n) t (into, rest) smallest = absurd (never (is_looked_into from) into skipped)

-- of a part that is
pub all_told : (from : FaultAt) (parts : List FaultAt) (i : ℕ) (is_cut : Bool) (all : List FaultAt) → parts ≡ faulty (inside from.1) → length parts ≤ i
    → (has_inside from ≡ false → is_told_at all from.1.pointer ≡ true) → TellsBelow i parts is_cut all → is_cut ≡ false → TellsEach from all
all_told from parts i is_cut all are past here below uncut zero t is smallest = smallest_told from t all is here smallest
all_told from parts i is_cut all are past here below uncut (suc n) t (into, (u, there, looks)) smallest =
    let same : get_or parts there.0 u ≡ u = ap (λ xs. get_or xs there.0 u) are ∙ there.2 in
    let within : there.0 < i = omega (arith, past, ap length are, there.1) in
    subst (λ (x : FaultAt). TellsEach x all) same (below uncut there.0 u within) n t looks smallest

-- ---- whether the search was cut

pub still_cut : (before middle after may : Bool) → middle ≡ (before || not may) → after ≡ middle → before ≡ true → after ≡ true
still_cut before middle after may is same cut = same ∙ is ∙ ap (λ b. b || not may) cut

pub cut_here : (before after may : Bool) → after ≡ (before || not may) → may ≡ false → after ≡ false → ⊥
cut_here before after may is stops uncut = never (before || true) (or_true before) (ap (λ b. before || not b) (sym stops) ∙ sym is ∙ uncut)

-- ---- as the code has them

pub told_as : {X : Type 0} (at : X → FaultAt) (xs : List X) (pointer : List ℕ) → is_told_at (map at xs) pointer ≡ list_any (λ x. bytes_eq (at x).1.pointer pointer) xs
told_as at xs pointer = any_of at (λ t. bytes_eq t.1.pointer pointer) xs

pub inside_as : {X : Type 0} (at : X → FaultAt) (t : FaultAt) (xs : List X) → map at xs ≡ faulty (inside t.1) → has_inside t ≡ list_any (λ x. is_fault t.0 (Some (at x).0)) xs
inside_as at t xs are = ap (list_any (λ (u : FaultAt). is_fault t.0 (Some u.0))) (sym are) ∙ any_of at (λ u. is_fault t.0 (Some u.0)) xs

pub into_there : (into looked : Bool) → into ≡ looked → not into ≡ true → looked ≡ false
into_there true looked is out = absurd (cc)
into_there false looked is out = sym is

pub at_part : {X : Type 0} (at : X → FaultAt) (xs : List X) (i : ℕ) (x : X) → i < length xs → x ≡ get_or xs i x → (d : FaultAt) → get_or (map at xs) i d ≡ at x
at_part at xs i x lt here d = get_or-map at xs i x d lt ∙ ap at (sym here)

pub past_parts : {X : Type 0} (at : X → FaultAt) (xs : List X) (i : ℕ) → length xs ≤ i → length (map at xs) ≤ i
past_parts at xs i past = omega (arith, length-map xs at, past)
