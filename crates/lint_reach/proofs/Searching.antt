-- What a search finds of references, one after the other.
use Rattle.std.proofs.Common.{◌≡◌, ℕ, ◌+◌, ◌<◌, ◌≤◌, List, [], ◌∷◌, ◌++◌, Bool, true, false, ◌||◌, cond, Option, Some, None, append-nil, get_or, length, map, take, refl, sym, ap, ◌∙◌, subst}
use Rattle.std.specs.List.{flat_map, list_any}
use Rattle.std.specs.Option.{option_to_list}
use Rattle.std.specs.Ordering.{is_eq}
use Rattle.std.specs.declared.cmp.Ordering.{Ordering}
use Rattle.std.proofs.lemmas.List.{take_all, take_more}
use Rattle.std.proofs.lemmas.List.Concat.{flat_map-append}
use Rattle.std.proofs.lemmas.List.Elements.{filter_map-append}
use Rattle.std.proofs.lemmas.List.Folds.{list_any-append}
use Rattle.ent_policy.proofs.Same.{same_reference-Decides}
use Rattle.ent_policy.specs.Same.{same_reference}
use Rattle.ent_policy.specs.contracts.key.ReferenceOrd.TheImpl as orders
use Rattle.ent_policy.specs.contracts.key.ReferenceOrd.TheImpl.Laws.{matches_eq-law}
use Rattle.ent_policy.specs.declared.key.Reference.{Reference}
use Rattle.ent_finder.specs.Slots.{Docs}
use Rattle.lint_reach.specs.Reached.{has_place, place_found, places_found}
use Rattle.lint_reach.specs.declared.place.DocPlace.{DocPlace}
use Rattle.lint_reach.specs.declared.search.Search.{Search}
use Rattle.lint_reach.specs.proofs_only.Search.{IsSound, Leads, has_reference}
use Rattle.lint_reach.proofs.Places.{HasMore, here, one_more, place-Decides, same_place}

-- ---- references

abbrev pub reference_cmp : Reference → Reference → Ordering
reference_cmp = (orders.ghosts).cmp

-- what is found by the order is found by `==`
pub by_order : (r : Reference) (among : List Reference) → list_any (λ other. is_eq (reference_cmp r other)) among ≡ has_reference r among
by_order r among = λ i. list_any (λ other. sym (matches_eq-law r other) i) among

-- a set that has one reference more than another
abbrev pub HasOneMore : List Reference → List Reference → Reference → Type 0
HasOneMore old new more = (r : Reference)
    → list_any (λ other. is_eq (reference_cmp r other)) new
    ≡ cond (is_eq (reference_cmp more r)) true (list_any (λ other. is_eq (reference_cmp r other)) old)

one_reference : (old new : List Reference) (more r : Reference) → HasOneMore old new more
    → has_reference r new ≡ cond (same_reference more r) true (has_reference r old)
one_reference old new more r updates =
    sym (by_order r new) ∙ updates r ∙ (λ i. cond (sym (matches_eq-law more r) i) true (by_order r old i))

-- ---- tests

or_false : (b : Bool) → b ≡ (b || false)
or_false true = refl
or_false false = refl

or_assoc : (a b c : Bool) → ((a || b) || c) ≡ (a || (b || c))
or_assoc true b c = refl
or_assoc false b c = refl

with_true : (a b : Bool) → b ≡ true → (a || b) ≡ true
with_true true b is = refl
with_true false b is = is

-- ---- places

-- one place more, if there is one
pub put_none : (old : List DocPlace) (o : Option DocPlace) → o ≡ None
    → (p : DocPlace) → has_place p old ≡ (has_place p old || has_place p (option_to_list o))
put_none old o none p =
    or_false (has_place p old) ∙ ap (λ x. has_place p old || has_place p (option_to_list x)) (sym none)

pub put_one : (old new : List DocPlace) (o : Option DocPlace) (q : DocPlace) → o ≡ Some q → HasMore old new q
    → (p : DocPlace) → has_place p new ≡ (has_place p old || has_place p (option_to_list o))
put_one old new o q is updates p =
    one_more old old new [] q (λ x. or_false (has_place x old)) updates p
    ∙ ap (λ x. has_place p old || has_place p (option_to_list x)) (sym is)

module _ (modules : List Docs) where
  -- what one reference finds
  pub one_placed : (r : Reference) → places_found modules (r ∷ []) ≡ option_to_list (place_found modules r)
  one_placed r = by (place_found modules r) refl where
    by : (o : Option DocPlace) → place_found modules r ≡ o → places_found modules (r ∷ []) ≡ option_to_list o
    by None is = cc
    by (Some q) is = cc

  -- ---- a search

  -- nothing was looked for
  pub sound_new : (s : Search) → s.references.keys ≡ [] → IsSound modules s
  sound_new s none = record { found = λ r p sought is. absurd (no_reference r s.references.keys none sought) } where
    no_reference : (r : Reference) (rs : List Reference) → rs ≡ [] → has_reference r rs ≡ true → ⊥
    no_reference r [] none sought = cc
    no_reference r (x ∷ rs) none sought = cc

  -- nothing more was
  pub leads_nowhere : (s : Search) → IsSound modules s → Leads modules [] s s
  leads_nowhere s sound = record { sound = sound; places = λ p. or_false (has_place p s.places.keys) }

  -- a reference was looked for already
  pub leads_again : (s : Search) (r : Reference) → IsSound modules s → has_reference r s.references.keys ≡ true
      → Leads modules (r ∷ []) s s
  leads_again s r sound sought = record {
    sound = sound;
    places = λ p. by p (place_found modules r) refl ∙ ap (λ ps. has_place p s.places.keys || has_place p ps) (sym (one_placed r));
  } where
    there : (p q : DocPlace) (b : Bool) → place_found modules r ≡ Some q → same_place p q ≡ b
        → has_place p s.places.keys ≡ (has_place p s.places.keys || (b || false))
    there p q false is same = or_false (has_place p s.places.keys)
    there p q true is same =
        let found : has_place p s.places.keys ≡ true =
        ap (λ x. has_place x s.places.keys) ((place-Decides p q).0 same) ∙ sound.found r q sought is in
        found ∙ ap (λ b. b || true) (sym found)

    by : (p : DocPlace) (o : Option DocPlace) → place_found modules r ≡ o
        → has_place p s.places.keys ≡ (has_place p s.places.keys || has_place p (option_to_list o))
    by p None is = or_false (has_place p s.places.keys)
    by p (Some q) is = there p q (same_place p q) is refl

  -- a reference is looked for
  pub leads_on_one : (before after : Search) (r : Reference) → IsSound modules before
      → (o : Option DocPlace) → o ≡ place_found modules r
      → ((p : DocPlace) → has_place p after.places.keys ≡ (has_place p before.places.keys || has_place p (option_to_list o)))
      → HasOneMore before.references.keys after.references.keys r → Leads modules (r ∷ []) before after
  leads_on_one before after r sound o finds put references = record { sound = record { found = found }; places = places } where
    places : (p : DocPlace) → has_place p after.places.keys
        ≡ (has_place p before.places.keys || has_place p (places_found modules (r ∷ [])))
    places p = put p ∙ ap (λ ps. has_place p before.places.keys || has_place p ps) (ap option_to_list finds ∙ sym (one_placed r))

    by : (q : Reference) (p : DocPlace) (b : Bool) → same_reference r q ≡ b
        → cond b true (has_reference q before.references.keys) ≡ true → place_found modules q ≡ Some p
        → has_place p after.places.keys ≡ true
    by q p true same sought is =
        let of_this : place_found modules r ≡ Some p = ap (place_found modules) ((same_reference-Decides r q).0 same) ∙ is in
        places p
        ∙ with_true (has_place p before.places.keys) (has_place p (places_found modules (r ∷ [])))
        (ap (has_place p) (one_placed r ∙ ap option_to_list of_this) ∙ here p [])
    by q p false same sought is =
        places p ∙ ap (λ b. b || has_place p (places_found modules (r ∷ []))) (sound.found q p sought is)

    found : (q : Reference) (p : DocPlace) → has_reference q after.references.keys ≡ true
        → place_found modules q ≡ Some p → has_place p after.places.keys ≡ true
    found q p sought is =
        by q p (same_reference r q) refl
        (sym (one_reference before.references.keys after.references.keys r q references) ∙ sought) is

  -- one search after the other
  pub leads_on : (rs more : List Reference) (before between after : Search) → Leads modules rs before between
      → Leads modules more between after → Leads modules (rs ++ more) before after
  leads_on rs more before between after first second = record {
    sound = second.sound;
    places = λ p.
        second.places p ∙ ap (λ b. b || has_place p (places_found modules more)) (first.places p)
        ∙ or_assoc (has_place p before.places.keys) (has_place p (places_found modules rs)) (has_place p (places_found modules more))
        ∙ ap (λ b. has_place p before.places.keys || b)
        (sym (ap (has_place p) (filter_map-append _ rs more) ∙ list_any-append (same_place p) (places_found modules rs) (places_found modules more)));
  }

  pub leads_same : (rs others : List Reference) (before after : Search) → rs ≡ others → Leads modules rs before after
      → Leads modules others before after
  leads_same rs others before after same = subst (λ xs. Leads modules xs before after) same

  -- ---- several, one after the other

  module _ {A : Type 0} (references : A → List Reference) (xs : List A) where
    taken_more : (i : ℕ) (x : A) → i < length xs → x ≡ get_or xs i x
        → flat_map references (take i xs) ++ references x ≡ flat_map references (take (i + 1) xs)
    taken_more i x within at =
        ap (λ ys. flat_map references (take i xs) ++ ys) (sym (append-nil (references x)))
        ∙ sym (flat_map-append references (take i xs) (x ∷ []))
        ∙ ap (λ y. flat_map references (take i xs ++ y ∷ [])) at
        ∙ ap (flat_map references) (sym (take_more xs i x within))

    -- one more
    pub leads_more : (i : ℕ) (x : A) (start before after : Search) → i < length xs → x ≡ get_or xs i x
        → Leads modules (flat_map references (take i xs)) start before → Leads modules (references x) before after
        → Leads modules (flat_map references (take (i + 1) xs)) start after
    leads_more i x start before after within at so_far next =
        leads_same _ _ start after (taken_more i x within at)
        (leads_on (flat_map references (take i xs)) (references x) start before after so_far next)

    -- all of them
    pub leads_all : (i : ℕ) (start after : Search) → length xs ≤ i → Leads modules (flat_map references (take i xs)) start after
        → Leads modules (flat_map references xs) start after
    leads_all i start after past = leads_same _ _ start after (ap (flat_map references) (take_all i xs past))

  -- those of parts, as a list of lists
  pub joined : {A : Type 0} (references : A → List Reference) (xs : List A)
      → flat_map references xs ≡ flat_map (λ rs. rs) (map references xs)
  joined references [] = refl
  joined references (x ∷ xs) = ap (λ ys. references x ++ ys) (joined references xs)
