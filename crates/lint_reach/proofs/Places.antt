-- Places, sets of them, and what such a set leads to.
use Rattle.std.proofs.Common.{◌≡◌, List, [], ◌∷◌, ◌++◌, Bool, true, false, ◌||◌, cond, refl, sym, ap, ◌∙◌}
use Rattle.std.proofs.lemmas.List.Elements.{filter_map-append}
use Rattle.std.proofs.lemmas.List.Folds.{list_any-append}
use Rattle.std.proofs.lemmas.Bool.Decides.{Decides-eqb}
use Rattle.std.specs.Bool.{Decides}
use Rattle.std.specs.List.{flat_map, list_any}
use Rattle.std.specs.Ordering.{is_eq}
use Rattle.std.specs.declared.cmp.Ordering.{Ordering}
use Rattle.ent_values.proofs.Telling.{decided, decides, last, more, struct}
use Rattle.ent_policy.proofs.Same.{same_key-Decides}
use Rattle.ent_finder.specs.Slots.{Docs}
use Rattle.lint_reach.specs.Reached.{has_place, places_found, references_at}
use Rattle.lint_reach.specs.contracts.place.DocPlace as place
use Rattle.lint_reach.specs.contracts.place.DocPlaceEq.TheImpl.Laws as equalities
use Rattle.lint_reach.specs.contracts.place.DocPlaceOrd.TheImpl as orders
use Rattle.lint_reach.specs.contracts.place.DocPlaceOrd.TheImpl.Laws.{matches_eq-law}
use Rattle.lint_reach.specs.contracts.place.DocPlacePartialEq.TheImpl as places
use Rattle.lint_reach.specs.declared.place.DocPlace.{DocPlace}

-- ---- equal places

abbrev pub same_place : DocPlace → DocPlace → Bool
same_place = (places.ghosts).eq

abbrev pub place_cmp : DocPlace → DocPlace → Ordering
place_cmp = (orders.ghosts).cmp

pub place-Decides : (a b : DocPlace) → Decides (same_place a b) (a ≡ b)
place-Decides = decides equalities.laws-law (struct place.struct place.the_propositions (more (decided Decides-eqb) (last (decided same_key-Decides))))

-- what is found by the order is found by `==`
pub by_order : (p : DocPlace) (among : List DocPlace) → list_any (λ other. is_eq (place_cmp p other)) among ≡ has_place p among
by_order p among = λ i. list_any (λ other. sym (matches_eq-law p other) i) among

-- ---- what stands among places

pub here : (p : DocPlace) (among : List DocPlace) → has_place p (p ∷ among) ≡ true
here p among = ap (λ b. b || has_place p among) ((place-Decides p p).1 refl)

there : (p x : DocPlace) (among : List DocPlace) → has_place p among ≡ true → has_place p (x ∷ among) ≡ true
there p x among is = by (same_place p x)
  where
    by : (b : Bool) → (b || has_place p among) ≡ true
    by true = refl
    by false = is

-- two tests that have the same answer true
both_ways : (a b : Bool) → (a ≡ true → b ≡ true) → (b ≡ true → a ≡ true) → a ≡ b
both_ways true b there back = sym (there refl)
both_ways false true there back = back refl
both_ways false false there back = refl

or_true : (a b : Bool) → b ≡ true → (a || b) ≡ true
or_true true b h = refl
or_true false b h = h

module _ (test : DocPlace → Bool) where
  -- a place that passes a test stands among these
  any_at : (p : DocPlace) (among : List DocPlace) → has_place p among ≡ true → test p ≡ true → list_any test among ≡ true
  any_at p [] is passes = absurd cc
  any_at p (x ∷ among) is passes = by (same_place p x) refl (λ rest. any_at p among rest passes)
    where
      by : (b : Bool) → same_place p x ≡ b → (has_place p among ≡ true → list_any test among ≡ true) → (test x || list_any test among) ≡ true
      by true e later = ap (λ b. b || list_any test among) (ap test (sym ((place-Decides p x).0 e)) ∙ passes)
      by false e later = or_true (test x) (list_any test among) (later (ap (λ b. b || has_place p among) (sym e) ∙ is))

  -- what passes it among some places passes it among others that have them
  any_among : (xs ys : List DocPlace) → ((p : DocPlace) → has_place p xs ≡ true → has_place p ys ≡ true) → list_any test xs ≡ true → list_any test ys ≡ true
  any_among [] ys have is = absurd cc
  any_among (x ∷ xs) ys have is = by (test x) refl (any_among xs ys (λ p h. have p (there p x xs h)))
    where
      by : (b : Bool) → test x ≡ b → (list_any test xs ≡ true → list_any test ys ≡ true) → list_any test ys ≡ true
      by true e later = any_at x ys (have x (here x xs)) e
      by false e later = later (ap (λ b. b || list_any test xs) (sym e) ∙ is)

  -- it rests on which places there are
  same_any : (xs ys : List DocPlace) → ((p : DocPlace) → has_place p xs ≡ has_place p ys) → list_any test xs ≡ list_any test ys
  same_any xs ys same =
      both_ways (list_any test xs) (list_any test ys) (any_among xs ys (λ p h. sym (same p) ∙ h)) (any_among ys xs (λ p h. same p ∙ h))

-- ---- what is found from places

module _ (modules : List Docs) where
  -- what the documents at these places lead to
  abbrev pub found_from : List DocPlace → List DocPlace
  found_from among = places_found modules (flat_map (references_at modules) among)

  spread : (p : DocPlace) (among : List DocPlace) → has_place p (found_from among) ≡ list_any (λ x. has_place p (places_found modules (references_at modules x))) among
  spread p [] = refl
  spread p (x ∷ among) =
      ap (has_place p) (filter_map-append _ (references_at modules x) (flat_map (references_at modules) among))
      ∙ list_any-append (same_place p) (places_found modules (references_at modules x)) (found_from among)
      ∙ ap (λ b. has_place p (places_found modules (references_at modules x)) || b) (spread p among)

  -- it rests on which places these are
  pub same_found : (xs ys : List DocPlace) → ((p : DocPlace) → has_place p xs ≡ has_place p ys) → (p : DocPlace) → has_place p (found_from xs) ≡ has_place p (found_from ys)
  same_found xs ys same p = spread p xs ∙ same_any _ xs ys same ∙ sym (spread p ys)

  -- one hop more
  pub one_hop : (old new xs found : List DocPlace) → ((p : DocPlace) → has_place p old ≡ has_place p xs) → found ≡ found_from old
      → ((p : DocPlace) → has_place p new ≡ (has_place p old || has_place p found)) → (p : DocPlace) → has_place p new ≡ has_place p (xs ++ found_from xs)
  one_hop old new xs found same is added p =
      added p ∙ ap (λ f. has_place p old || has_place p f) is
      ∙ (λ i. same p i || same_found old xs same p i)
      ∙ sym (list_any-append (same_place p) xs (found_from xs))

-- ---- a set of places

-- a set that has one place more than another
abbrev pub HasMore : List DocPlace → List DocPlace → DocPlace → Type 0
HasMore old new more = (p : DocPlace)
    → list_any (λ other. is_eq (place_cmp p other)) new ≡ cond (is_eq (place_cmp more p)) true (list_any (λ other. is_eq (place_cmp p other)) old)

same_turned : (p q : DocPlace) → same_place p q ≡ same_place q p
same_turned p q =
    both_ways (same_place p q) (same_place q p) (λ h. (place-Decides q p).1 (sym ((place-Decides p q).0 h))) (λ h. (place-Decides p q).1 (sym ((place-Decides q p).0 h)))

placed_last : (a b c : Bool) → cond c true (a || b) ≡ (a || (b || (c || false)))
placed_last true b true = refl
placed_last true b false = refl
placed_last false true true = refl
placed_last false true false = refl
placed_last false false true = refl
placed_last false false false = refl

-- what is in it then
pub one_more : (start old new yielded : List DocPlace) (more : DocPlace) → ((p : DocPlace) → has_place p old ≡ (has_place p start || has_place p yielded))
    → HasMore old new more → (p : DocPlace) → has_place p new ≡ (has_place p start || has_place p (yielded ++ more ∷ []))
one_more start old new yielded more so_far updates p =
    sym (by_order p new) ∙ updates p
    ∙ (λ i. cond (same_is i) true (by_order p old i))
    ∙ ap (cond (same_place p more) true) (so_far p)
    ∙ placed_last (has_place p start) (has_place p yielded) (same_place p more)
    ∙ ap (λ b. has_place p start || b) (sym (list_any-append (same_place p) yielded (more ∷ [])))
  where
    same_is : is_eq (place_cmp more p) ≡ same_place p more
    same_is = sym (matches_eq-law more p) ∙ same_turned more p
