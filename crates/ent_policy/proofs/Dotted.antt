-- Texts of pieces with dots between them, whatever each piece spells.
use Rattle.std.proofs.Common.{◌≡◌, ℕ, suc, zero, ◌+◌, ◌==◌, ◌<◌, ◌≤◌, List, [], ◌∷◌, ◌++◌, length, map, take, get_or, Bool, true, false, ◌&&◌, cond, nat_lt, nat_le, Option, Some, None, option_map, append_assoc, length-take, refl, sym, ap, ◌∙◌, set, arith}
use Rattle.std.specs.List.{count_by, join_with_byte, list_all, slice_split, All}
use Rattle.std.proofs.lemmas.Bool.{and_parts, lt-ltb}
use Rattle.std.proofs.lemmas.Bool.Decides.{nat_tests}
use Rattle.std.proofs.lemmas.List.{length-map, take_more, take_more_set, take_all, map_push}
use Rattle.std.proofs.lemmas.List.Splits.{length-slice_split, slice_split_none, slice_split_at}
use Rattle.ent_policy.specs.Versions.{all_there, dotted_of, pieces}
use Rattle.ent_policy.specs.proofs_only.Versions.{behind_dot}

-- ---- reading them, one after another

-- one is missing
all_there-missing : {A : Type 0} (xs : List (Option A)) (i : ℕ) (d : Option A) → i < length xs → get_or xs i d ≡ None → all_there xs ≡ None
all_there-missing [] i d lt h = absurd (omega arith)
all_there-missing (None ∷ xs) i d lt h = refl
all_there-missing (Some x ∷ xs) zero d lt h = absurd cc
all_there-missing (Some x ∷ xs) (suc i) d lt h = rw (all_there-missing xs i d (omega arith) h) refl

-- the first and the others
first_there : {A : Type 0} (x : A) (xs : List (Option A)) (ys : List A) → all_there (Some x ∷ xs) ≡ Some ys → (zs : List A) × (all_there xs ≡ Some zs) × (ys ≡ x ∷ zs)
first_there {A} x xs ys h = of (all_there xs) refl h
  where
    of : (o : Option (List A)) → all_there xs ≡ o → option_map (λ zs. x ∷ zs) o ≡ Some ys → (zs : List A) × (all_there xs ≡ Some zs) × (ys ≡ x ∷ zs)
    of None e h = absurd cc
    of (Some zs) e h = (zs, e, cc)

-- one more is there
all_there-push : {A : Type 0} (xs : List (Option A)) (ys : List A) (y : A) → all_there xs ≡ Some ys → all_there (xs ++ Some y ∷ []) ≡ Some (ys ++ y ∷ [])
all_there-push [] ys y h = cc
all_there-push (None ∷ xs) ys y h = absurd cc
all_there-push (Some x ∷ xs) ys y h =
    let p = first_there x xs ys h in
    ap (option_map (λ zs. x ∷ zs)) (all_there-push xs p.0 y p.1) ∙ ap (λ zs. Some (zs ++ y ∷ [])) (sym p.2)

pub one_more : {A : Type 0} (f : List ℕ → Option A) (ps : List (List ℕ)) (i : ℕ) (p : List ℕ) (v : A) (xs : List A) → i < length ps → i < length xs
    → p ≡ get_or ps i p → Some v ≡ f p → all_there (map f (take i ps)) ≡ Some (take i xs) → all_there (map f (take (i + 1) ps)) ≡ Some (take (i + 1) (set xs i v))
one_more f ps i p v xs lt room here h sofar =
    rw (take_more ps i p lt, ← here, map_push f (take i ps) p, ← h, take_more_set xs i v room) (all_there-push (map f (take i ps)) (take i xs) v sofar)

get_or-map : {A B : Type 0} (f : A → B) (xs : List A) (i : ℕ) (d : A) → get_or (map f xs) i (f d) ≡ f (get_or xs i d)
get_or-map f [] i d = refl
get_or-map f (x ∷ xs) zero d = refl
get_or-map f (x ∷ xs) (suc i) d = get_or-map f xs i d

-- one piece spells nothing
pub one_missing : {A : Type 0} (f : List ℕ → Option A) (text : List ℕ) (i : ℕ) (p : List ℕ)
    → i < length (pieces text) → p ≡ get_or (pieces text) i p → None ≡ f p → dotted_of f text ≡ None
one_missing f text i p lt here h =
    let at : get_or (map f (pieces text)) i (f p) ≡ None = get_or-map f (pieces text) i p ∙ ap f (sym here) ∙ sym h in
    let within : i < length (map f (pieces text)) = rw length-map lt in
    either (nat_le (length (pieces text)) 8) (all_there (map f (pieces text))) (all_there-missing (map f (pieces text)) i (f p) within at)
  where
    either : {B : Type 0} (b : Bool) (o : Option B) → o ≡ None → cond b o None ≡ None
    either true o h = h
    either false o h = refl

-- there are more than 8 pieces
pub too_many : {A : Type 0} (f : List ℕ → Option A) (text : List ℕ) → 8 < length (pieces text) → dotted_of f text ≡ None
too_many f text more =
    let many : nat_le (length (pieces text)) 8 ≡ false = grind (arith, nat_tests) in
    rw many refl

-- each piece spells something
pub all_read : {A : Type 0} (f : List ℕ → Option A) (text : List ℕ) (xs : List A) (n : ℕ) → n ≡ length (pieces text) → n ≤ 8
    → all_there (map f (take n (pieces text))) ≡ Some (take n xs) → dotted_of f text ≡ Some (take n xs)
all_read f text xs n whole few read =
    let all : take n (pieces text) ≡ pieces text = take_all n (pieces text) (omega arith) in
    let short : nat_le (length (pieces text)) 8 ≡ true = grind (arith, nat_tests) in
    rw short (rw all at read)

-- ---- writing them, one after another

-- one piece more behind the others
join_push : (x : List ℕ) (xs : List (List ℕ)) (y : List ℕ) → join_with_byte 46 (x ∷ xs ++ y ∷ []) ≡ join_with_byte 46 (x ∷ xs) ++ 46 ∷ y
join_push x [] y = refl
join_push x (z ∷ xs) y = ap (λ t. x ++ 46 ∷ t) (join_push z xs y) ∙ sym (append_assoc x (46 ∷ join_with_byte 46 (z ∷ xs)) (46 ∷ y))

not_first : (place n : ℕ) → place ≡ n + 1 → (place == 0) ≡ false
not_first place n h = grind (arith, nat_tests)

text_push : (place : ℕ) (xs : List (List ℕ)) (y : List ℕ) → place ≡ length xs → join_with_byte 46 (xs ++ y ∷ []) ≡ join_with_byte 46 xs ++ behind_dot place y
text_push place [] y h = rw h refl
text_push place (x ∷ xs) y h =
    let later : (place == 0) ≡ false = not_first place (length xs) (h ∙ omega arith) in
    rw later (join_push x xs y)

-- the text grows by one piece
pub grows : {A : Type 0} (write : A → List ℕ) (xs : List A) (i : ℕ) (x : A) (before now : List ℕ) → i < length xs → x ≡ get_or xs i x
    → before ≡ join_with_byte 46 (map write (take i xs)) → now ≡ before ++ behind_dot i (write x) → now ≡ join_with_byte 46 (map write (take (i + 1) xs))
grows write xs i x before now lt here b h =
    let place : i ≡ length (map write (take i xs)) = simp (length-map, length-take) (omega arith) in
    let pushed = text_push i (map write (take i xs)) (write x) place in
    rw (h, b, take_more xs i x lt, ← here, map_push write (take i xs) x) (sym pushed)

-- ---- what is read, part by part

split_some : (p : ℕ → Bool) (xs : List ℕ) → nat_lt 0 (length (slice_split p xs)) ≡ true
split_some p xs =
    let more : length (slice_split p xs) ≡ count_by p xs + 1 = length-slice_split p xs in
    let some : 0 < length (slice_split p xs) = omega (arith, more) in
    lt-ltb 0 (length (slice_split p xs)) some

module _ {A : Type 0} (f : List ℕ → Option A) (q : A → Bool) (kept : (p : List ℕ) (x : A) → f p ≡ Some x → q x ≡ true) where
  all_kept : (ps : List (List ℕ)) (v : List A) → all_there (map f ps) ≡ Some v → (length v ≡ length ps) × (list_all q v ≡ true)
  all_kept [] [] h = (refl, refl)
  all_kept [] (x ∷ v) h = absurd cc
  all_kept (p ∷ ps) v h = of (f p) refl h (λ zs. all_kept ps zs)
    where
      of : (o : Option A) → f p ≡ o → all_there (o ∷ map f ps) ≡ Some v
          → ((zs : List A) → all_there (map f ps) ≡ Some zs → (length zs ≡ length ps) × (list_all q zs ≡ true))
          → (length v ≡ length (p ∷ ps)) × (list_all q v ≡ true)
      of None e h others = absurd cc
      of (Some x) e h others =
          let t = first_there x (map f ps) v h in
          let rest = others t.0 t.1 in
          let good : q x ≡ true = kept p x e in
          (ap length t.2 ∙ ap suc rest.0, ap (list_all q) t.2 ∙ rw (good, rest.1) refl)

  -- what a text spells has 1 to 8 parts, of which holds what holds of each
  pub dotted_kept : (text : List ℕ) (v : List A) → dotted_of f text ≡ Some v → (nat_lt 0 (length v) && nat_le (length v) 8 && list_all q v) ≡ true
  dotted_kept text v h = of (nat_le (length (pieces text)) 8) refl h
    where
      of : (b : Bool) → nat_le (length (pieces text)) 8 ≡ b → cond b (all_there (map f (pieces text))) None ≡ Some v
          → (nat_lt 0 (length v) && nat_le (length v) 8 && list_all q v) ≡ true
      of false e h = absurd cc
      of true e h =
          let k = all_kept (pieces text) v h in
          rw (k.0, split_some (λ b. b == 46) text, e, k.1) refl

-- ---- what is written reads back

module _ {A : Type 0} (f : List ℕ → Option A) (write : A → List ℕ) (q : A → Bool) where
  module _ (back : (x : A) → q x ≡ true → f (write x) ≡ Some x) where
    all_back : (v : List A) → list_all q v ≡ true → all_there (map f (map write v)) ≡ Some v
    all_back [] h = refl
    all_back (x ∷ v) h =
        let p = and_parts (q x) (list_all q v) h in
        rw (back x p.0, all_back v p.1) refl

    module _ (whole : (x : A) → q x ≡ true → All (λ b. (b == 46) ≡ false) (write x)) where
      split_joined : (x : A) (xs : List A) → list_all q (x ∷ xs) ≡ true → pieces (join_with_byte 46 (map write (x ∷ xs))) ≡ map write (x ∷ xs)
      split_joined x [] h = slice_split_none (λ b. b == 46) (write x) (whole x (and_parts (q x) true h).0)
      split_joined x (y ∷ ys) h =
          let p = and_parts (q x) (list_all q (y ∷ ys)) h in
          slice_split_at (λ b. b == 46) (write x) 46 (join_with_byte 46 (map write (y ∷ ys))) (whole x p.0) refl ∙ ap (λ ps. write x ∷ ps) (split_joined y ys p.1)

      pub dotted_back : (v : List A) → (nat_lt 0 (length v) && nat_le (length v) 8 && list_all q v) ≡ true → dotted_of f (join_with_byte 46 (map write v)) ≡ Some v
      dotted_back [] h = absurd cc
      dotted_back (x ∷ v) h =
          let p = and_parts (nat_lt 0 (length (x ∷ v)) && nat_le (length (x ∷ v)) 8) (list_all q (x ∷ v)) h in
          let short = (and_parts (nat_lt 0 (length (x ∷ v))) (nat_le (length (x ∷ v)) 8) p.0).1 in
          let few : nat_le (length (map write (x ∷ v))) 8 ≡ true = rw length-map short in
          rw (split_joined x v p.1, few) (all_back (x ∷ v) p.1)
