-- Lists that grow at their ends, and what stands in them.
use Rattle.std.proofs.Common.{◌≡◌, ℕ, zero, suc, ◌<◌, ◌≤◌, true, false, List, [], ◌∷◌, ◌++◌, length, take, set, slice_get, Some, Result, Ok, Err, refl, sym, ap, ◌∙◌, arith}
use Rattle.std.specs.Prelude.{IfOk}
use Rattle.std.specs.List.{AllByRecursion, IsDistinct}
use Rattle.std.proofs.lemmas.List.{append-nil, append_assoc, length-append}
use Rattle.ent_values.specs.Bags.{Contents}
use Rattle.ent_values.specs.Same.{same_bag}
use Rattle.ent_values.proofs.Values.{same_bag-Decides}
use Rattle.memo_bags.specs.proofs_only.Ready.{Begins}

pub some_same : {A : Type 0} (x y : A) → Some x ≡ Some y → x ≡ y
some_same x y e = cc

pub at_end : {A : Type 0} (xs ys : List A) (x : A) (n : ℕ) → ys ≡ xs ++ x ∷ [] → n ≡ length xs → slice_get ys n ≡ Some x
at_end xs ys x n is at = ap (λ zs. slice_get zs n) is ∙ ap (slice_get (xs ++ x ∷ [])) at ∙ last xs where
  last : {A : Type 0} {x : A} (xs : List A) → slice_get (xs ++ x ∷ []) (length xs) ≡ Some x
  last [] = refl
  last (y ∷ ys) = last ys

pub get_more : {A : Type 0} (xs more : List A) (k : ℕ) (x : A) → slice_get xs k ≡ Some x → slice_get (xs ++ more) k ≡ Some x
get_more [] more k x at = absurd (cc)
get_more (y ∷ ys) more zero x at = at
get_more (y ∷ ys) more (suc k) x at = get_more ys more k x at

pub get_fewer : {A : Type 0} (xs more : List A) (k : ℕ) (x : A) → k < length xs → slice_get (xs ++ more) k ≡ Some x → slice_get xs k ≡ Some x
get_fewer [] more k x below at = absurd (omega (arith, below))
get_fewer (y ∷ ys) more zero x below at = at
get_fewer (y ∷ ys) more (suc k) x below at = get_fewer ys more k x (omega (arith, below)) at

pub get_set : {A : Type 0} (xs : List A) (i : ℕ) (x : A) → i < length xs → slice_get (set xs i x) i ≡ Some x
get_set [] i x below = absurd (omega (arith, below))
get_set (y ∷ ys) zero x below = refl
get_set (y ∷ ys) (suc i) x below = get_set ys i x (omega (arith, below))

-- ---- a list behind which others stand

pub starts_itself : {A : Type 0} (xs ys : List A) → ys ≡ xs → Begins ys xs
starts_itself xs ys is = ([], is ∙ sym (append-nil xs))

pub starts_then : {A : Type 0} (xs ys zs : List A) → Begins ys xs → Begins zs ys → Begins zs xs
starts_then xs ys zs first second = (first.0 ++ second.0, second.1 ∙ ap (λ l. l ++ second.0) first.1 ∙ append_assoc xs first.0 second.0)

pub starts_get : {A : Type 0} (xs ys : List A) (k : ℕ) (x : A) → Begins ys xs → slice_get xs k ≡ Some x → slice_get ys k ≡ Some x
starts_get xs ys k x begins at = ap (λ l. slice_get l k) begins.1 ∙ get_more xs begins.0 k x at

pub starts_back : {A : Type 0} (xs ys : List A) (k : ℕ) (x : A) → Begins ys xs → k < length xs → slice_get ys k ≡ Some x → slice_get xs k ≡ Some x
starts_back xs ys k x begins below at = get_fewer xs begins.0 k x below (ap (λ l. slice_get l k) (sym begins.1) ∙ at)

pub starts_length : {A : Type 0} (xs ys : List A) → Begins ys xs → length xs ≤ length ys
starts_length xs ys begins = omega (arith, ap (λ l. length l) begins.1, length-append xs begins.0)

-- ---- what holds of each

pub all_map : {A : Type 0} (P Q : A → Type 0) → ((x : A) → P x → Q x) → (xs : List A) → AllByRecursion P xs → AllByRecursion Q xs
all_map P Q weaker [] all = tt
all_map P Q weaker (x ∷ xs) all = (weaker x all.0, all_map P Q weaker xs all.1)

pub all_none : {A : Type 0} (P : A → Type 0) (xs : List A) → xs ≡ [] → AllByRecursion P xs
all_none P [] is = tt
all_none P (x ∷ xs) is = absurd (cc)

pub all_take : {A : Type 0} (P : A → Type 0) (n : ℕ) (xs : List A) → AllByRecursion P xs → AllByRecursion P (take n xs)
all_take P zero xs all = tt
all_take P (suc n) [] all = tt
all_take P (suc n) (x ∷ xs) all = (all.0, all_take P n xs all.1)

pub take_shorter : {A : Type 0} (n : ℕ) (xs : List A) → length (take n xs) ≤ length xs
take_shorter zero xs = omega arith
take_shorter (suc n) [] = omega arith
take_shorter (suc n) (x ∷ xs) = omega (arith, take_shorter n xs)

pub all_first : {A : Type 0} (P : A → Type 0) (xs ys : List A) → AllByRecursion P (xs ++ ys) → AllByRecursion P xs
all_first P [] ys all = tt
all_first P (x ∷ xs) ys all = (all.0, all_first P xs ys all.1)

pub all_later : {A : Type 0} (P : A → Type 0) (xs ys : List A) → AllByRecursion P (xs ++ ys) → AllByRecursion P ys
all_later P [] ys all = all
all_later P (x ∷ xs) ys all = all_later P xs ys all.1

-- what holds of each holds also with one in the place of another, if it holds of that one wherever it did of the other
pub all_set : {A : Type 0} (P : A → Type 0) (xs : List A) (i : ℕ) (y : A) → ((x : A) → slice_get xs i ≡ Some x → P x → P y) → AllByRecursion P xs → AllByRecursion P (set xs i y)
all_set P [] i y next all = tt
all_set P (x ∷ xs) zero y next all = (next x refl all.0, all.1)
all_set P (x ∷ xs) (suc i) y next all = (all.0, all_set P xs i y next all.1)

-- ---- equal bags stand at one place alone

not_behind : (b : Contents) (bags : List Contents) (n : ℕ) (c : Contents) → AllByRecursion (λ y. same_bag b y ≡ false) bags → b ≡ c → slice_get bags n ≡ Some c → ⊥
not_behind b [] n c differ same at = absurd (cc)
not_behind b (x ∷ bags) zero c differ same at =
    let yes : same_bag b x ≡ true = (same_bag-Decides b x).1 (same ∙ sym (some_same x c at)) in
    let no : same_bag b x ≡ false = differ.0 in
    absurd (cc)
not_behind b (x ∷ bags) (suc n) c differ same at = not_behind b bags n c differ.1 same at

pub one_place : (bags : List Contents) (m n : ℕ) (b : Contents) → IsDistinct same_bag bags → slice_get bags m ≡ Some b → slice_get bags n ≡ Some b → m ≡ n
unfolding IsDistinct
one_place [] m n b distinct first second = absurd (cc)
one_place (x ∷ xs) zero zero b distinct first second = refl
one_place (x ∷ xs) zero (suc n) b distinct first second = absurd (not_behind x xs n b distinct.0 (some_same x b first) second)
one_place (x ∷ xs) (suc m) zero b distinct first second = absurd (not_behind x xs m b distinct.0 (some_same x b second) first)
one_place (x ∷ xs) (suc m) (suc n) b distinct first second = ap suc (one_place xs m n b distinct.1 first second)

pub none_distinct : (bags : List Contents) → bags ≡ [] → IsDistinct same_bag bags
unfolding IsDistinct
none_distinct [] is = tt
none_distinct (b ∷ bags) is = absurd (cc)

-- what holds at each place holds of each
pub all_by_place : {A : Type 0} (P : A → Type 0) (xs : List A) → ((i : ℕ) (x : A) → slice_get xs i ≡ Some x → P x) → AllByRecursion P xs
all_by_place P [] each = tt
all_by_place P (x ∷ xs) each = (each 0 x refl, all_by_place P xs (λ i y at. each (suc i) y at))

-- what holds of a result where another thing does
pub if_ok : {A E : Type 0} (r : Result A E) (P Q : A → Type 0) → ((x : A) → P x → Q x) → IfOk r P → IfOk r Q
if_ok (Err e) P Q weaker h = tt
if_ok (Ok x) P Q weaker h = weaker x h
