-- Rows of several keys, and those of one.
use Rattle.std.proofs.Common.{◌≡◌, ℕ, suc, ◌+◌, ◌<◌, ◌≤◌, List, [], ◌∷◌, ◌++◌, length, Bool, true, false, cond}
use Rattle.std.proofs.Common.{refl, sym, ap, ◌∙◌, arith, append-nil}
use Rattle.std.specs.Prelude.{bytes_eq, filter, nat_eq}
use Rattle.std.specs.Cmp.Lexicographic.{bytes_decides}
use Rattle.std.specs.List.{AllByRecursion, IsDistinct, flat_map}
use Rattle.std.proofs.lemmas.Bool.{eqb-false, eqb-true, false≢true, ne_eqb}
use Rattle.std.proofs.lemmas.List.Elements.{filter-append}
use Rattle.std.proofs.lemmas.Map.Keys.{IsDistinct-head, IsDistinct-tail}
use Rattle.law_rebuild.proofs.Named.{flipped}
use Rattle.law_split.specs.Merged.{merged}
use Rattle.law_split.proofs.Pieces.{Pieces}

-- ---- names

pub same_name : (x : List ℕ) → bytes_eq x x ≡ true
same_name x = (bytes_decides x x).1 refl

abbrev pub is_name : List ℕ → List ℕ → Bool
is_name person x = bytes_eq x person

-- those of a name are among those that pass a test if the name does
pub kept_name : (own : List ℕ → Bool) (person : List ℕ) → own person ≡ true
    → (xs : List (List ℕ)) → filter (is_name person) (filter own xs) ≡ filter (is_name person) xs
kept_name own person e [] = refl
kept_name own person e (x ∷ xs) = by (kept_name own person e xs) (own x) (bytes_eq x person) refl refl
  where
    by : filter (is_name person) (filter own xs) ≡ filter (is_name person) xs → (a b : Bool) → own x ≡ a → bytes_eq x person ≡ b
        → filter (is_name person) (cond a (x ∷ filter own xs) (filter own xs)) ≡ cond b (x ∷ filter (is_name person) xs) (filter (is_name person) xs)
    by rest true b f g = λ i. cond (g i) (x ∷ rest i) (rest i)
    by rest false true f g = absurd (false≢true (sym f ∙ ap own ((bytes_decides x person).0 g) ∙ e))
    by rest false false f g = rest

-- and none is otherwise
pub left_out : (own : List ℕ → Bool) (person : List ℕ) → own person ≡ false
    → (xs : List (List ℕ)) → filter (is_name person) (filter own xs) ≡ []
left_out own person e [] = refl
left_out own person e (x ∷ xs) = by (left_out own person e xs) (own x) (bytes_eq x person) refl refl
  where
    by : filter (is_name person) (filter own xs) ≡ [] → (a b : Bool) → own x ≡ a → bytes_eq x person ≡ b
        → filter (is_name person) (cond a (x ∷ filter own xs) (filter own xs)) ≡ []
    by rest true true f g = absurd (false≢true (sym e ∙ sym (ap own ((bytes_decides x person).0 g)) ∙ f))
    by rest true false f g = (λ i. cond (g i) (x ∷ filter (is_name person) (filter own xs)) (filter (is_name person) (filter own xs))) ∙ rest
    by rest false b f g = rest

-- ---- rows

module _ {B : Type 0} (key : B → List ℕ) (row : List ℕ → List B) (keyed : (x : List ℕ) → AllByRecursion (λ b. key b ≡ x) (row x)) where
  abbrev pub is_key : List ℕ → B → Bool
  is_key person b = bytes_eq (key b) person

  if_same : (c : Bool) (b : B) (bs l : List B) → l ≡ cond c bs [] → cond c (b ∷ l) l ≡ cond c (b ∷ bs) []
  if_same true b bs l e = ap (λ (m : List B). b ∷ m) e
  if_same false b bs l e = e

  nothing : (c : Bool) → ◌≡◌ {A = List B} [] (cond c [] [])
  nothing true = refl
  nothing false = refl

  all_alike : (person x : List ℕ) (bs : List B) → AllByRecursion (λ b. key b ≡ x) bs → filter (is_key person) bs ≡ cond (bytes_eq x person) bs []
  all_alike person x [] h = nothing (bytes_eq x person)
  all_alike person x (b ∷ bs) h =
      ap (λ y. cond (bytes_eq y person) (b ∷ filter (is_key person) bs) (filter (is_key person) bs)) h.0
      ∙ if_same (bytes_eq x person) b bs (filter (is_key person) bs) (all_alike person x bs h.1)

  one_row : (person x : List ℕ) → filter (is_key person) (row x) ≡ cond (bytes_eq x person) (row x) []
  one_row person x = all_alike person x (row x) (keyed x)

  -- the rows of one key are those of the names that are it
  pub rows_of : (person : List ℕ) (xs : List (List ℕ)) → filter (is_key person) (flat_map row xs) ≡ flat_map row (filter (is_name person) xs)
  rows_of person [] = refl
  rows_of person (x ∷ xs) =
      filter-append (is_key person) (row x) (flat_map row xs)
      ∙ (λ i. one_row person x i ++ rows_of person xs i)
      ∙ by (bytes_eq x person)
    where
      by : (c : Bool) → cond c (row x) [] ++ flat_map row (filter (is_name person) xs) ≡ flat_map row (cond c (x ∷ filter (is_name person) xs) (filter (is_name person) xs))
      by true = refl
      by false = refl

  -- ---- over several lists

  module _ (part_of : List ℕ → ℕ) (people : List (List ℕ)) where
    -- a list has the rows of the names of its number
    abbrev pub HasItsRows : ℕ → List B → Type 0
    HasItsRows k bs = bs ≡ flat_map row (filter (λ x. nat_eq (part_of x) k) people)

    abbrev joined : List (List B) → List B
    joined lists = flat_map (λ list. list) lists

    of_one_list : (person : List ℕ) (k : ℕ) (bs : List B) → HasItsRows k bs → (b : Bool) → nat_eq (part_of person) k ≡ b
        → filter (is_key person) bs ≡ cond b (flat_map row (filter (is_name person) people)) []
    of_one_list person k bs h true e =
        ap (filter (is_key person)) h
        ∙ rows_of person (filter (λ x. nat_eq (part_of x) k) people)
        ∙ ap (flat_map row) (kept_name (λ x. nat_eq (part_of x) k) person e people)
    of_one_list person k bs h false e =
        ap (filter (is_key person)) h
        ∙ rows_of person (filter (λ x. nat_eq (part_of x) k) people)
        ∙ ap (flat_map row) (left_out (λ x. nat_eq (part_of x) k) person e people)

    none_later : (person : List ℕ) (k : ℕ) (lists : List (List B)) → part_of person < k → Pieces HasItsRows k lists → filter (is_key person) (joined lists) ≡ []
    none_later person k [] below h = refl
    none_later person k (bs ∷ lists) below h =
        filter-append (is_key person) bs (joined lists)
        ∙ (λ i. of_one_list person k bs h.0 false (ne_eqb (part_of person) k (λ e. absurd (omega arith))) i ++ none_later person (suc k) lists (omega arith) h.1 i)

    in_one : (person : List ℕ) (k : ℕ) (lists : List (List B)) → k ≤ part_of person → part_of person < k + length lists → Pieces HasItsRows k lists
        → filter (is_key person) (joined lists) ≡ flat_map row (filter (is_name person) people)
    in_one person k [] least most h = absurd (omega arith)
    in_one person k (bs ∷ lists) least most h = by (λ above. in_one person (suc k) lists above (omega arith) h.1) (nat_eq (part_of person) k) refl
      where
        by : (suc k ≤ part_of person → filter (is_key person) (joined lists) ≡ flat_map row (filter (is_name person) people))
            → (b : Bool) → nat_eq (part_of person) k ≡ b → filter (is_key person) (joined (bs ∷ lists)) ≡ flat_map row (filter (is_name person) people)
        by later true e =
            filter-append (is_key person) bs (joined lists)
            ∙ (λ i. of_one_list person k bs h.0 true e i ++ none_later person (suc k) lists (omega (arith, eqb-true (part_of person) k e)) h.1 i)
            ∙ append-nil (flat_map row (filter (is_name person) people))
        by later false e =
            let other : part_of person ≡ k → ⊥ = eqb-false (part_of person) k e in
            filter-append (is_key person) bs (joined lists)
            ∙ (λ i. of_one_list person k bs h.0 false e i ++ later (omega (arith, other)) i)

    -- the rows of one name in all lists
    pub rows_in_all : (person : List ℕ) (lists : List (List B)) → part_of person < length lists → Pieces HasItsRows 0 lists
        → filter (is_key person) (joined lists) ≡ flat_map row (filter (is_name person) people)
    rows_in_all person lists below h = in_one person 0 lists (omega arith) (omega arith) h

    -- ---- by the order of names

    none_alike : (person : List ℕ) (xs : List (List ℕ)) → AllByRecursion (λ y. bytes_eq person y ≡ false) xs → filter (is_name person) xs ≡ []
    none_alike person [] h = refl
    none_alike person (x ∷ xs) h = λ i. cond (flipped person x h.0 i) (x ∷ none_alike person xs h.1 i) (none_alike person xs h.1 i)

    -- a name is found as itself alone
    abbrev IsAlone : List (List ℕ) → List ℕ → Type 0
    IsAlone xs person = filter (is_name person) xs ≡ person ∷ []

    behind : (x : List ℕ) (xs ys : List (List ℕ)) → AllByRecursion (λ y. bytes_eq x y ≡ false) ys → AllByRecursion (IsAlone xs) ys → AllByRecursion (IsAlone (x ∷ xs)) ys
    behind x xs [] apart h = tt
    behind x xs (y ∷ ys) apart h = (
      (λ i. cond (apart.0 i) (x ∷ filter (is_name y) xs) (filter (is_name y) xs)) ∙ h.0,
      behind x xs ys apart.1 h.1,
    )

    each_alone : (xs : List (List ℕ)) → IsDistinct bytes_eq xs → AllByRecursion (IsAlone xs) xs
    each_alone [] d = tt
    each_alone (x ∷ xs) d =
        let apart = IsDistinct-head bytes_eq x xs d in (
          λ i. cond (same_name x i) (x ∷ none_alike x xs apart i) (none_alike x xs apart i),
          behind x xs xs apart (each_alone xs (IsDistinct-tail bytes_eq x xs d)),
        )

    in_order : (lists : List (List B)) → ((x : List ℕ) → part_of x < length lists) → Pieces HasItsRows 0 lists
        → (xs : List (List ℕ)) → AllByRecursion (IsAlone people) xs → merged key xs (joined lists) ≡ flat_map row xs
    in_order lists below h [] alone = refl
    in_order lists below h (x ∷ xs) alone =
        (λ i. rows_in_all x lists (below x) h i ++ in_order lists below h xs alone.1 i)
        ∙ ap (λ l. flat_map row l ++ flat_map row xs) alone.0
        ∙ ap (λ l. l ++ flat_map row xs) (append-nil (row x))

    -- the rows of all lists by the order of names are those of the names
    pub merged_is : (lists : List (List B)) → ((x : List ℕ) → part_of x < length lists) → Pieces HasItsRows 0 lists
        → IsDistinct bytes_eq people → merged key people (joined lists) ≡ flat_map row people
    merged_is lists below h distinct = in_order lists below h people (each_alone people distinct)
