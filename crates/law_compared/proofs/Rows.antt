-- Cells at the texts of their requests stand in byte order of these.
use Rattle.std.proofs.Common.{◌≡◌, ℕ, List, [], ◌∷◌, map, Bool, true, false, ◌||◌, Some, None, refl, sym}
use Rattle.std.proofs.Common.{ap, ◌∙◌}
use Rattle.std.specs.Prelude.{if◌then◌else◌, option_and_then}
use Rattle.std.specs.Cmp.{IsTotalOrder}
use Rattle.std.specs.Cmp.Lexicographic.{on_texts, slice_cmp}
use Rattle.std.specs.FinMap.{nat_cmp-IsAntisymmetric, slice_cmp-IsAntisymmetric}
use Rattle.std.specs.List.{AllByRecursion, list_any}
use Rattle.std.specs.List.Sorted.{IsStrictlySortedBy}
use Rattle.std.specs.Ordering.{is_eq, match_ordering, nat_cmp, ordering_reverse}
use Rattle.std.specs.declared.cmp.Ordering.{Ordering}
use Rattle.std.specs.declared.cmp.Ordering.TheVariants.{Less, Equal, Greater}
use Rattle.serde_json.specs.Data as json
use Rattle.serde_json.specs.Data.{Data, Members, put}
use Rattle.serde_json.specs.Find.{get_member}
use Rattle.script_compare.specs.Tables.{by_request, request_of}

-- ---- tests

or_again : (b c : Bool) → (b || c) ≡ (b || (b || c))
or_again true c = refl
or_again false c = refl

or_turned : (a b c : Bool) → (a || (b || c)) ≡ (b || (a || c))
or_turned true true c = refl
or_turned true false c = refl
or_turned false true c = refl
or_turned false false c = refl

module _ {X : Type 0} (text : X → List ℕ) where
  -- the byte order of the texts
  abbrev pub order : X → X → Ordering
  order x y = slice_cmp nat_cmp (text x) (text y)

  pub total : IsTotalOrder order
  total = on_texts text

  -- one of them is that one
  abbrev pub among : X → List X → Bool
  among x ys = list_any (λ y. is_eq (order x y)) ys

  -- one more in its place
  abbrev pub placed : X → List X → List X
  placed x [] = x ∷ []
  placed x (y ∷ ys) = match_ordering (order x y) (x ∷ y ∷ ys) (y ∷ ys) (y ∷ placed x ys)

  abbrev pub all_placed : List X → List X → List X
  all_placed [] found = found
  all_placed (x ∷ xs) found = all_placed xs (placed x found)

  -- in byte order, each once
  abbrev pub in_order : List X → List X
  in_order xs = all_placed xs []

  -- cells at these texts, as members of an object
  abbrev pub members : (X → Data) → List X → Members
  members cell [] = json.no_members
  members cell (x ∷ xs) = json.member (text x) (cell x) (members cell xs)

  module _ (exact : (x y : X) → text x ≡ text y → x ≡ y) where
    pub same : (x y : X) → order x y ≡ Equal → x ≡ y
    same x y e = exact x y (slice_cmp-IsAntisymmetric nat_cmp-IsAntisymmetric (text x) (text y) e)

    -- ---- one more in its place

    all_below : (z x : X) (ys : List X) → order z x ≡ Less → AllByRecursion (λ y. order z y ≡ Less) ys
        → AllByRecursion (λ y. order z y ≡ Less) (placed x ys)
    all_below z x [] e h = (e, tt)
    all_below z x (y ∷ ys) e h = by (order x y) (all_below z x ys e h.1)
      where
        by : (o : Ordering) → AllByRecursion (λ y. order z y ≡ Less) (placed x ys)
            → AllByRecursion (λ y. order z y ≡ Less) (match_ordering o (x ∷ y ∷ ys) (y ∷ ys) (y ∷ placed x ys))
        by Less more = (e, h)
        by Equal more = h
        by Greater more = (h.0, more)

    chained : (x y : X) (ys : List X) → order x y ≡ Less → AllByRecursion (λ z. order y z ≡ Less) ys
        → AllByRecursion (λ z. order x z ≡ Less) ys
    chained x y [] e h = tt
    chained x y (z ∷ ys) e h = (total.trans x y z e h.0, chained x y ys e h.1)

    placed_ascend : (x : X) (ys : List X) → IsStrictlySortedBy order ys → IsStrictlySortedBy order (placed x ys)
    unfolding IsStrictlySortedBy
    placed_ascend x [] h = (tt, tt)
    placed_ascend x (y ∷ ys) h = by (order x y) refl (placed_ascend x ys h.1)
      where
        by : (o : Ordering) → order x y ≡ o → IsStrictlySortedBy order (placed x ys)
            → IsStrictlySortedBy order (match_ordering o (x ∷ y ∷ ys) (y ∷ ys) (y ∷ placed x ys))
        by Less e more = ((e, chained x y ys e h.0), h)
        by Equal e more = h
        by Greater e more = (all_below y x ys (total.antisymm y x ∙ ap ordering_reverse e) h.0, more)

    pub all_ascend : (xs found : List X) → IsStrictlySortedBy order found
        → IsStrictlySortedBy order (all_placed xs found)
    all_ascend [] found h = h
    all_ascend (x ∷ xs) found h = all_ascend xs (placed x found) (placed_ascend x found h)

    among_placed : (z x : X) (ys : List X) → among z (placed x ys) ≡ (is_eq (order z x) || among z ys)
    among_placed z x [] = refl
    among_placed z x (y ∷ ys) = by (order x y) refl (among_placed z x ys)
      where
        by : (o : Ordering) → order x y ≡ o → among z (placed x ys) ≡ (is_eq (order z x) || among z ys)
            → among z
            (match_ordering o (x ∷ y ∷ ys) (y ∷ ys) (y ∷ placed x ys)) ≡ (is_eq (order z x)
            || (is_eq (order z y) || among z ys))
        by Less e more = refl
        by Equal e more = or_again (is_eq (order z y)) (among z ys)
            ∙ ap (λ (w : X). is_eq (order z w) || (is_eq (order z y) || among z ys)) (sym (same x y e))
        by Greater e more =
            ap (λ b. is_eq (order z y) || b) more ∙ or_turned (is_eq (order z y)) (is_eq (order z x)) (among z ys)

    among_all : (z : X) (xs found : List X) → among z (all_placed xs found) ≡ (among z xs || among z found)
    among_all z [] found = refl
    among_all z (x ∷ xs) found = among_all z xs (placed x found)
        ∙ ap (λ b. among z xs || b) (among_placed z x found)
        ∙ or_parted (among z xs) (is_eq (order z x)) (among z found)
      where
        or_parted : (a b c : Bool) → (a || (b || c)) ≡ ((b || a) || c)
        or_parted true true c = refl
        or_parted true false c = refl
        or_parted false true c = refl
        or_parted false false c = refl

    pub among_ordered : (z : X) (xs : List X) → among z (in_order xs) ≡ among z xs
    among_ordered z xs = among_all z xs [] ∙ or_none (among z xs)
      where
        or_none : (b : Bool) → (b || false) ≡ b
        or_none true = refl
        or_none false = refl

    pub ordered : (xs : List X) → IsStrictlySortedBy order (in_order xs)
    unfolding IsStrictlySortedBy
    ordered xs = all_ascend xs [] tt

    -- ---- as members of an object

    module _ (cell : X → Data) where
      put_members : (x : X) (ys : List X) → put (text x) (cell x) (members cell ys) ≡ members cell (placed x ys)
      put_members x [] = refl
      put_members x (y ∷ ys) = by (order x y) refl (put_members x ys)
        where
          by : (o : Ordering) → order x y ≡ o → put (text x) (cell x) (members cell ys) ≡ members cell (placed x ys)
              → match_ordering o (json.member (text x) (cell x) (members cell (y ∷ ys)))
              (json.member (text y) (cell x) (members cell ys))
              (json.member (text y) (cell y) (put (text x) (cell x) (members cell ys)))
              ≡ members cell (match_ordering o (x ∷ y ∷ ys) (y ∷ ys) (y ∷ placed x ys))
          by Less e more = refl
          by Equal e more = ap (λ (z : X). json.member (text y) (cell z) (members cell ys)) (same x y e)
          by Greater e more = ap (json.member (text y) (cell y)) more

      -- the cell at a request, if it is one of these
      pub at_request : (x : X) (ys : List X)
          → get_member (text x) (members cell ys) ≡ (if among x ys then Some (cell x) else None)
      at_request x [] = refl
      at_request x (y ∷ ys) = by (order x y) refl (at_request x ys)
        where
          by : (o : Ordering) → order x y ≡ o
              → get_member (text x) (members cell ys) ≡ (if among x ys then Some (cell x) else None)
              → match_ordering o (get_member (text x) (members cell ys)) (Some (cell y))
              (get_member (text x) (members cell ys)) ≡ (if is_eq o || among x ys then Some (cell x) else None)
          by Less e more = more
          by Equal e more = ap (λ (z : X). Some (cell z)) (sym (same x y e))
          by Greater e more = more

      module _ (asks : (x : X) → request_of (cell x) ≡ Some (text x)) where
        all_put : (xs found : List X)
            → by_request (members cell found) (map cell xs) ≡ Some (members cell (all_placed xs found))
        all_put [] found = refl
        all_put (x ∷ xs) found =
            ap (option_and_then (λ request. by_request (put request (cell x) (members cell found)) (map cell xs)))
            (asks x)
            ∙ ap (λ ms. by_request ms (map cell xs)) (put_members x found)
            ∙ all_put xs (placed x found)

        -- cells by their requests are these in order
        pub by_requests : (xs : List X) → by_request json.no_members (map cell xs) ≡ Some (members cell (in_order xs))
        by_requests xs = all_put xs []
