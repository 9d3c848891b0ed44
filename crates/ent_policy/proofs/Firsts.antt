-- The first of some faults.
use Rattle.std.proofs.Common.{◌≡◌, ℕ, ◌+◌, ◌<◌, List, [], ◌∷◌, ◌++◌, length, map, take, get_or, Bool, true, false, Option, Some, None, nat_le, refl, sym, ap, ◌∙◌, arith}
use Rattle.std.specs.Prelude.{if◌then◌else◌}
use Rattle.std.proofs.lemmas.Bool.Decides.{nat_tests}
use Rattle.std.proofs.lemmas.List.{take_more, map_push}
use Rattle.ent_policy.specs.declared.fault.DocFault.{DocFault}
use Rattle.ent_policy.specs.First.{earlier, first_of, place}
use Rattle.ent_policy.specs.Reading.{each_read}
use Rattle.ent_policy.specs.declared.read.Read.{Read}

-- which of three comes first doesn't depend on which two are compared first
joined : (f g h : DocFault) (p q r : Bool) → nat_le (place f) (place g) ≡ p → nat_le (place g) (place h) ≡ q → nat_le (place f) (place h) ≡ r
    → earlier (if p then Some f else Some g) (Some h) ≡ earlier (Some f) (if q then Some g else Some h)
joined f g h true true true a b c = rw (a, c) refl
joined f g h true true false a b c = absurd (grind (arith, nat_tests))
joined f g h true false r a b c = refl
joined f g h false true r a b c = rw (a, b) refl
joined f g h false false true a b c = absurd (grind (arith, nat_tests))
joined f g h false false false a b c = rw (b, c) refl

some_none : (f g : DocFault) (b : Bool) → earlier (if b then Some f else Some g) None ≡ (if b then Some f else Some g)
some_none f g true = refl
some_none f g false = refl

pub earlier_assoc : (a b c : Option DocFault) → earlier (earlier a b) c ≡ earlier a (earlier b c)
earlier_assoc None b c = refl
earlier_assoc (Some f) None c = refl
earlier_assoc (Some f) (Some g) None = some_none f g (nat_le (place f) (place g))
earlier_assoc (Some f) (Some g) (Some h) = joined f g h (nat_le (place f) (place g)) (nat_le (place g) (place h)) (nat_le (place f) (place h)) refl refl refl

pub earlier_none : (a : Option DocFault) → earlier a None ≡ a
earlier_none None = refl
earlier_none (Some f) = refl

first_push : (fs : List (Option DocFault)) (f : Option DocFault) → first_of (fs ++ f ∷ []) ≡ earlier (first_of fs) f
first_push [] f = earlier_none f
first_push (g ∷ fs) f = ap (earlier g) (first_push fs f) ∙ sym (earlier_assoc g (first_of fs) f)

-- one more of a list
first_more : {X : Type 0} (f : X → Option DocFault) (xs : List X) (i : ℕ) (x : X) → i < length xs → x ≡ get_or xs i x → first_of (map f (take (i + 1) xs)) ≡ earlier (first_of (map f (take i xs))) (f x)
first_more f xs i x lt here = rw (take_more xs i x lt, ← here, map_push f (take i xs) x) (first_push (map f (take i xs)) (f x))

-- one more of those that were taken
first_taken : {X : Type 0} (f : X → Option DocFault) (xs : List X) (x : X) → first_of (map f (xs ++ x ∷ [])) ≡ earlier (first_of (map f xs)) (f x)
first_taken f xs x = rw (map_push f xs x) (first_push (map f xs) (f x))

-- ---- loops

-- one more of some faults
pub fault_next : (fs : List (Option DocFault)) (i : ℕ) (before after : Option DocFault) → i < length fs → before ≡ first_of (take i fs) → after ≡ earlier before (get_or fs i None) → after ≡ first_of (take (i + 1) fs)
fault_next fs i before after lt a b = rw (b, a, take_more fs i None lt) (sym (first_push (take i fs) (get_or fs i None)))

-- one more fault
pub fault_more : {X : Type 0} (f : X → Option DocFault) (xs : List X) (i : ℕ) (x : X) (before after found : Option DocFault) → i < length xs → x ≡ get_or xs i x → before ≡ first_of (map f (take i xs)) → found ≡ f x → after ≡ earlier before found
    → after ≡ first_of (map f (take (i + 1) xs))
fault_more f xs i x before after found lt here a b c = rw (c, a, b) (sym (first_more f xs i x lt here))

-- one more value that was read, and its fault
pub value_taken : {X Y : Type 0} (f : X → Read Y) (xs : List X) (x : X) (before after : List Y) (read : Read Y) → before ≡ map (λ x. (f x).value) xs → read ≡ f x → after ≡ before ++ read.value ∷ [] → after ≡ map (λ x. (f x).value) (xs ++ x ∷ [])
value_taken f xs x before after read a b c = rw (c, a, b) (sym (map_push (λ x. (f x).value) xs x))

pub fault_taken : {X Y : Type 0} (f : X → Read Y) (xs : List X) (x : X) (before after : Option DocFault) (read : Read Y) → before ≡ first_of (map (λ x. (f x).fault) xs) → read ≡ f x → after ≡ earlier before read.fault → after ≡ first_of (map (λ x. (f x).fault) (xs ++ x ∷ []))
fault_taken f xs x before after read a b c = rw (c, a, b) (sym (first_taken (λ x. (f x).fault) xs x))

map_map : {X Y Z : Type 0} (f : Y → Z) (g : X → Y) (xs : List X) → map f (map g xs) ≡ map (λ x. f (g x)) xs
map_map f g [] = refl
map_map f g (x ∷ xs) = ap (λ ys. f (g x) ∷ ys) (map_map f g xs)

map_same : {X : Type 0} (xs : List X) → map (λ x. x) xs ≡ xs
map_same [] = refl
map_same (x ∷ xs) = ap (λ ys. x ∷ ys) (map_same xs)

-- all were read
pub all_taken : {X Y : Type 0} (f : X → Read Y) (xs ys : List X) (values : List Y) (fault : Option DocFault) → map (λ y. y) ys ≡ xs → values ≡ map (λ x. (f x).value) ys → fault ≡ first_of (map (λ x. (f x).fault) ys)
    → record { value = values; fault = fault } ≡ each_read f xs
all_taken f xs ys values fault same a b = rw (← same, map_same ys, map_map (λ x. x.value) f ys, map_map (λ x. x.fault) f ys, a, b) refl
