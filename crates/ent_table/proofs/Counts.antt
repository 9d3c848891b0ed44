-- How many of the requests of three lists are listed in three others.
use Rattle.std.proofs.Common.{◌≡◌, ℕ, ◌+◌, ◌*◌, ◌≤◌, List, [], ◌∷◌, ◌++◌, length, nat_eq, Bool, true, false, refl, sym, ap, subst, ◌∙◌, arith, length-append, append_assoc, append-nil}
use Rattle.std.specs.Prelude.{◌||◌, ◌&&◌, not, filter, if◌then◌else◌}
use Rattle.std.specs.Cmp.Lexicographic.{pointwise, bytes_decides}
use Rattle.std.proofs.lemmas.List.Elements.{filter-append}
use Rattle.ent_table.specs.Names.{Names, with_resources, with_actions, all_triples, triples, is_listed, has_name, others}
use Rattle.ent_table.proofs.Places.{length-all_triples}

-- how many elements pass
abbrev pub passing : {A : Type 0} → (A → Bool) → List A → ℕ
passing q xs = length (filter q xs)

passing-append : {A : Type 0} (q : A → Bool) (xs ys : List A) → passing q (xs ++ ys) ≡ passing q xs + passing q ys
passing-append q xs ys = ap length (filter-append q xs ys) ∙ length-append (filter q xs) (filter q ys)

-- each element passes
abbrev pub AllPass : {A : Type 0} → (A → Bool) → List A → Type 0
AllPass q [] = Unit {0}
AllPass q (x ∷ xs) = (q x ≡ true) × AllPass q xs

passing-most : {A : Type 0} (q : A → Bool) (xs : List A) → passing q xs ≤ length xs
passing-most q [] = omega arith
passing-most q (x ∷ xs) = most (q x) refl (passing-most q xs) where
  most : (b : Bool) → q x ≡ b → passing q xs ≤ length xs → passing q (x ∷ xs) ≤ length (x ∷ xs)
  most true e h = rw e (omega (arith, h))
  most false e h = rw e (omega (arith, h))

pub all_pass : {A : Type 0} (q : A → Bool) (xs : List A) → passing q xs ≡ length xs → AllPass q xs
all_pass q [] e = tt
all_pass q (x ∷ xs) e = by (q x) refl e (all_pass q xs) where
  by : (b : Bool) → q x ≡ b → passing q (x ∷ xs) ≡ length (x ∷ xs) → (passing q xs ≡ length xs → AllPass q xs) → AllPass q (x ∷ xs)
  by true h e more = (h, more (omega (arith, rw h at e)))
  by false h e more = absurd (omega (arith, rw h at e, passing-most q xs))

-- none is left of those that all pass
pub none_left : {A : Type 0} (q : A → Bool) (xs : List A) → AllPass q xs → passing (λ x. not (q x)) xs ≡ 0
none_left q [] h = refl
none_left q (x ∷ xs) h = rw h.0 (none_left q xs h.1)

-- those that pass and those that don't are all
pub passing-not : {A : Type 0} (q : A → Bool) (xs : List A) → passing (λ x. not (q x)) xs + passing q xs ≡ length xs
passing-not q [] = refl
passing-not q (x ∷ xs) = by (q x) refl (passing-not q xs) where
  by : (b : Bool) → q x ≡ b → passing (λ x. not (q x)) xs + passing q xs ≡ length xs → passing (λ x. not (q x)) (x ∷ xs) + passing q (x ∷ xs) ≡ length (x ∷ xs)
  by true e h = rw e (omega (arith, h))
  by false e h = rw e (omega (arith, h))

-- two tests that agree where a third passes
pub passing-same : {A : Type 0} (q f g : A → Bool) → ((x : A) → q x ≡ true → f x ≡ g x) → (xs : List A) → AllPass q xs → passing f xs ≡ passing g xs
passing-same q f g same [] h = refl
passing-same q f g same (x ∷ xs) h = by (g x) refl (same x h.0) (passing-same q f g same xs h.1) where
  by : (b : Bool) → g x ≡ b → f x ≡ g x → passing f xs ≡ passing g xs → passing f (x ∷ xs) ≡ passing g (x ∷ xs)
  by true e d h = rw (d, e) (omega (arith, h))
  by false e d h = rw (d, e) h

-- 1 for true
abbrev pub one_if : Bool → ℕ
one_if b = if b then 1 else 0

-- the names of xs that `names` has
abbrev pub known : List (List ℕ) → List (List ℕ) → ℕ
known names xs = passing (λ x. has_name x names) xs

in_row : (names : Names) (p a : List ℕ) (rs : List (List ℕ)) → passing (is_listed names) (with_resources p a rs) ≡ one_if (has_name p names.people) * (one_if (has_name a names.actions) * known names.resources rs)
in_row names p a [] = omega arith
in_row names p a (r ∷ rs) = by (has_name p names.people) (has_name a names.actions) (has_name r names.resources) refl refl refl (in_row names p a rs) where
  by : (b c d : Bool) → has_name p names.people ≡ b → has_name a names.actions ≡ c → has_name r names.resources ≡ d
      → passing (is_listed names) (with_resources p a rs) ≡ one_if (has_name p names.people) * (one_if (has_name a names.actions) * known names.resources rs)
      → passing (is_listed names) (with_resources p a (r ∷ rs)) ≡ one_if (has_name p names.people) * (one_if (has_name a names.actions) * known names.resources (r ∷ rs))
  by true true true e f g h = rw (e, f, g) (omega (arith, rw (e, f) at h))
  by true true false e f g h = rw (e, f, g) (omega (arith, rw (e, f) at h))
  by true false d e f g h = rw (e, f) (omega (arith, rw (e, f) at h))
  by false c d e f g h = rw e (omega (arith, rw e at h))

in_rows : (names : Names) (p : List ℕ) (rs as_ : List (List ℕ)) →
    passing (is_listed names) (with_actions p as_ rs) ≡ one_if (has_name p names.people) * (known names.actions as_ * known names.resources rs)
in_rows names p rs [] = omega arith
in_rows names p rs (a ∷ as_) =
    by (has_name a names.actions) refl
    (passing-append (is_listed names) (with_resources p a rs) (with_actions p as_ rs))
    (in_row names p a rs)
    (in_rows names p rs as_) where
      by : (b : Bool) → has_name a names.actions ≡ b
          → passing (is_listed names) (with_actions p (a ∷ as_) rs) ≡ passing (is_listed names) (with_resources p a rs) + passing (is_listed names) (with_actions p as_ rs)
          → passing (is_listed names) (with_resources p a rs) ≡ one_if (has_name p names.people) * (one_if (has_name a names.actions) * known names.resources rs)
          → passing (is_listed names) (with_actions p as_ rs) ≡ one_if (has_name p names.people) * (known names.actions as_ * known names.resources rs)
          → passing (is_listed names) (with_actions p (a ∷ as_) rs) ≡ one_if (has_name p names.people) * (known names.actions (a ∷ as_) * known names.resources rs)
      by true e both here more = both ∙ (rw (here, more, e) (grind arith))
      by false e both here more = both ∙ (rw (here, more, e) (grind arith))

-- of all requests of three lists, those that are listed
pub listed_count : (names : Names) (rs as_ ps : List (List ℕ)) →
    passing (is_listed names) (all_triples ps as_ rs) ≡ known names.people ps * (known names.actions as_ * known names.resources rs)
listed_count names rs as_ [] = omega arith
listed_count names rs as_ (p ∷ ps) =
    by (has_name p names.people) refl
    (passing-append (is_listed names) (with_actions p as_ rs) (all_triples ps as_ rs))
    (in_rows names p rs as_)
    (listed_count names rs as_ ps) where
      by : (b : Bool) → has_name p names.people ≡ b
          → passing (is_listed names) (all_triples (p ∷ ps) as_ rs) ≡ passing (is_listed names) (with_actions p as_ rs) + passing (is_listed names) (all_triples ps as_ rs)
          → passing (is_listed names) (with_actions p as_ rs) ≡ one_if (has_name p names.people) * (known names.actions as_ * known names.resources rs)
          → passing (is_listed names) (all_triples ps as_ rs) ≡ known names.people ps * (known names.actions as_ * known names.resources rs)
          → passing (is_listed names) (all_triples (p ∷ ps) as_ rs) ≡ known names.people (p ∷ ps) * (known names.actions as_ * known names.resources rs)
      by true e both here more = both ∙ (rw (here, more, e) (grind arith))
      by false e both here more = both ∙ (rw (here, more, e) (grind arith))

-- a list has its own names
pub has_own : (x : List ℕ) (before after : List (List ℕ)) → has_name x (before ++ x ∷ after) ≡ true
has_own x [] after = rw ((bytes_decides x x).1 refl)
has_own x (y ∷ before) after = by (pointwise nat_eq x y) (has_own x before after) where
  by : (b : Bool) → has_name x (before ++ x ∷ after) ≡ true → (b || has_name x (before ++ x ∷ after)) ≡ true
  by true h = refl
  by false h = h

own_between : (before xs after : List (List ℕ)) → known (before ++ (xs ++ after)) xs ≡ length xs
own_between before [] after = refl
own_between before (x ∷ xs) after =
    let here : has_name x (before ++ x ∷ (xs ++ after)) ≡ true = has_own x before (xs ++ after) in
    let more : known (before ++ x ∷ (xs ++ after)) xs ≡ length xs =
    subst (λ (l : List (List ℕ)). known l xs ≡ length xs) (append_assoc before (x ∷ []) (xs ++ after)) (own_between (before ++ x ∷ []) xs after) in
    rw here (omega (arith, more))

-- also where more names follow
pub known-more : (xs after : List (List ℕ)) → known (xs ++ after) xs ≡ length xs
known-more xs after = own_between [] xs after

pub known-own : (xs : List (List ℕ)) → known xs xs ≡ length xs
known-own xs = subst (λ (l : List (List ℕ)). known l xs ≡ length xs) (append-nil xs) (known-more xs [])

-- a new name isn't counted
pub known-new : (xs : List (List ℕ)) (x : List ℕ) → has_name x xs ≡ false → known xs (xs ++ x ∷ []) ≡ length xs
known-new xs x h =
    let last : known xs (x ∷ []) ≡ 0 = rw h refl in
    passing-append (λ y. has_name y xs) xs (x ∷ []) ∙ omega (arith, known-own xs, last)

-- a list without a name has the names that it had, but this one
pub has_others : (name x : List ℕ) (xs : List (List ℕ)) → has_name x (others name xs) ≡ (not (pointwise nat_eq name x) && has_name x xs)
has_others name x [] = by (pointwise nat_eq name x) where
  by : (b : Bool) → false ≡ (not b && false)
  by true = refl
  by false = refl
has_others name x (y ∷ xs) = by (pointwise nat_eq name y) (pointwise nat_eq x y) (pointwise nat_eq name x) refl refl refl (has_others name x xs) where
  by : (b c d : Bool) → pointwise nat_eq name y ≡ b → pointwise nat_eq x y ≡ c → pointwise nat_eq name x ≡ d
      → has_name x (others name xs) ≡ (not (pointwise nat_eq name x) && has_name x xs)
      → has_name x (others name (y ∷ xs)) ≡ (not (pointwise nat_eq name x) && has_name x (y ∷ xs))
  by true c true e f g h = rw (e, f, g) (rw g at h)
  by true true false e f g h =
      let same : name ≡ x = (bytes_decides name y).0 e ∙ sym ((bytes_decides x y).0 f) in
      let bad : pointwise nat_eq name x ≡ true = (bytes_decides name x).1 same in
      cc
  by true false false e f g h = rw (e, f, g) (rw g at h)
  by false true true e f g h =
      let same : name ≡ y = (bytes_decides name x).0 g ∙ (bytes_decides x y).0 f in
      let bad : pointwise nat_eq name y ≡ true = (bytes_decides name y).1 same in
      cc
  by false true false e f g h = rw (e, f, g)
  by false false d e f g h = rw (e, f) h

-- those that are left are counted
pub known-others : (name : List ℕ) (xs : List (List ℕ)) → known (others name xs) xs ≡ length (others name xs)
known-others name xs =
    passing-same (λ x. has_name x xs) (λ x. has_name x (others name xs)) (λ x. not (pointwise nat_eq name x)) same xs (all_pass (λ x. has_name x xs) xs (known-own xs))
  where
    left : (b c : Bool) → c ≡ true → (b && c) ≡ b
    left true c h = h
    left false c h = refl

    same : (x : List ℕ) → has_name x xs ≡ true → has_name x (others name xs) ≡ not (pointwise nat_eq name x)
    same x h = has_others name x xs ∙ left (not (pointwise nat_eq name x)) (has_name x xs) h

-- the requests of a state's own lists are all listed
pub own_listed : (names : Names) → AllPass (is_listed names) (triples names)
own_listed names =
    all_pass (is_listed names) (triples names)
    (listed_count names names.resources names.actions names.people
    ∙ rw (known-own names.people, known-own names.actions, known-own names.resources) (sym (length-all_triples names.actions names.resources names.people)))
