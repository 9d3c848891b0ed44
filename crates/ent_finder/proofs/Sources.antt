-- What a key finds in several modules.
use Rattle.std.proofs.Common.{◌≡◌, ◌≢◌, ◌⊎◌, inl, inr, ℕ, zero, suc, ◌+◌, ◌<◌, ◌≤◌, Bool, true, false, cond, List, [], ◌∷◌, Some, drop, length, map, find, unwrap_or, slice_index_or as get_or, refl, sym, ap, ◌∙◌, arith}
use Rattle.std.specs.List.{filter}
use Rattle.std.proofs.lemmas.List.{drop_all, drop_more}
use Rattle.ent_values.specs.Bags.{Contents}
use Rattle.ent_values.specs.declared.datatype.DataType.{DataType}
use Rattle.ent_values.specs.declared.value.Value.{Value}
use Rattle.ent_finder.specs.LawOfRows.{IsOfFirstSource}
use Rattle.ent_finder.specs.Looking.{looked, values_of, values_of_each}
use Rattle.ent_finder.specs.Rows.{Source, filled, filled_source, is_filled, source_at, supports}
use Rattle.ent_finder.specs.declared.row.AttrKey.{AttrKey}

filled_unless : (vs : List Value) → vs ≢ [] → is_filled vs ≡ true
filled_unless [] some = absurd (some refl)
filled_unless (v ∷ vs) some = refl

-- a bag into which no values came is as before
pub still_empty : (new old : Contents) (type : DataType) (vs : List Value) → new ≡ record { datatype = type; values = vs } → new.values ≡ [] → old.datatype ≡ type → old.values ≡ [] → new ≡ old
still_empty new old type vs is none before empty = λ t. record {
  datatype = (ap (λ (b : Contents). b.datatype) is ∙ sym before) t;
  values = (none ∙ sym empty) t;
}

-- ---- the first module, and the others

module _ (key : AttrKey) (s : Source) (ss : List Source) where
  -- what is found if the first module is asked or isn't
  if_asked : Bool → List Value
  if_asked b = unwrap_or (find is_filled (map (λ source. values_of key source.rows) (cond b (s ∷ filter (supports key.category) ss) (filter (supports key.category) ss)))) []

  -- what is found if the first module is asked and has these values
  if_has : List Value → List Value
  if_has vs = unwrap_or (cond (is_filled vs) (Some vs) (find is_filled (values_of_each key ss))) []

  not_asked : supports key.category s ≡ false → looked key (s ∷ ss) ≡ looked key ss
  unfolding if_asked
  not_asked off = ap if_asked off

  asked : supports key.category s ≡ true → looked key (s ∷ ss) ≡ if_has (values_of key s.rows)
  unfolding if_asked if_has
  asked on = ap if_asked on

  without_values : supports key.category s ≡ true → values_of key s.rows ≡ [] → looked key (s ∷ ss) ≡ looked key ss
  unfolding if_has
  without_values on none = asked on ∙ ap if_has none

  with_values : supports key.category s ≡ true → is_filled (values_of key s.rows) ≡ true → looked key (s ∷ ss) ≡ values_of key s.rows
  unfolding if_has
  with_values on some = asked on ∙ ap (λ b. unwrap_or (cond b (Some (values_of key s.rows)) (find is_filled (values_of_each key ss))) []) some

-- ---- the module at an index, and those behind it

module _ {B : Type 0} (f : B → Source) (key : AttrKey) where
  abbrev pub looked_from : List B → ℕ → List Value
  looked_from xs i = looked key (map filled_source (map f (drop i xs)))

  module _ (xs : List B) (i : ℕ) (x : B) (h : i < length xs) (is : x ≡ get_or xs i x) where
    at_x : looked_from xs i ≡ looked key (filled_source (f x) ∷ map filled_source (map f (drop (i + 1) xs)))
    at_x = ap (λ ys. looked key (map filled_source (map f ys))) (drop_more xs i x h) ∙ ap (λ y. looked key (filled_source (f y) ∷ map filled_source (map f (drop (i + 1) xs)))) (sym is)

    module _ (b : Bool) (answer : b ≡ supports key.category (f x)) where
      pub passed_over : b ≡ false → looked_from xs i ≡ looked_from xs (i + 1)
      passed_over off = at_x ∙ not_asked key (filled_source (f x)) (map filled_source (map f (drop (i + 1) xs))) (sym answer ∙ off)

      module _ (on : b ≡ true) (vs : List Value) (has : vs ≡ values_of key (filled (f x).rows)) where
        pub found_none : vs ≡ [] → looked_from xs i ≡ looked_from xs (i + 1)
        found_none none = at_x ∙ without_values key (filled_source (f x)) (map filled_source (map f (drop (i + 1) xs))) (sym answer ∙ on) (sym has ∙ none)

        pub found_some : vs ≢ [] → vs ≡ looked_from xs i
        found_some some =
            has ∙ sym (at_x ∙ with_values key (filled_source (f x)) (map filled_source (map f (drop (i + 1) xs))) (sym answer ∙ on) (filled_unless (values_of key (filled (f x).rows)) (λ e. some (has ∙ e))))

  pub none_left : (xs : List B) (i : ℕ) → length xs ≤ i → looked_from xs i ≡ []
  none_left xs i h = ap (λ ys. looked key (map filled_source (map f ys))) (drop_all i xs h)

-- ---- the first module that has values

module _ (key : AttrKey) where
  abbrev Has : List Source → ℕ → Type 0
  Has = IsOfFirstSource key

  found_behind : (s : Source) (ss : List Source) → looked key (s ∷ ss) ≡ looked key ss → (supports key.category s ≡ false) ⊎ (values_of key s.rows ≡ []) → (n : ℕ) × Has ss n → (n : ℕ) × Has (s ∷ ss) n
  found_behind s ss same first it = (
    suc it.0,
    record {
      is_module = omega (arith, it.1.is_module);
      is_supported = it.1.is_supported;
      has_them = it.1.has_them ∙ sym same;
      is_first = elim [ zero ↦ λ lt. first | suc j ↦ λ lt. it.1.is_first j (omega arith) ];
    },
  )

  pub found_first : (ss : List Source) → looked key ss ≢ [] → (n : ℕ) × Has ss n
  found_first [] some = absurd (some refl)
  found_first (s ∷ ss) some = by (supports key.category s) refl (values_of key s.rows) refl (found_first ss)
    where
      by : (b : Bool) → supports key.category s ≡ b → (vs : List Value) → values_of key s.rows ≡ vs → (looked key ss ≢ [] → (n : ℕ) × Has ss n) → (n : ℕ) × Has (s ∷ ss) n
      by false off vs is rest = let same = not_asked key s ss off in found_behind s ss same (inl off) (rest (λ e. some (same ∙ e)))
      by true on [] is rest = let same = without_values key s ss on is in found_behind s ss same (inr is) (rest (λ e. some (same ∙ e)))
      by true on (v ∷ vs) is rest = (
        0,
        record {
          is_module = omega arith;
          is_supported = on;
          has_them = sym (with_values key s ss on (ap is_filled is));
          is_first = λ j lt. absurd (omega arith);
        },
      )

  none_here : (s : Source) (ss : List Source) → looked key (s ∷ ss) ≡ [] → supports key.category s ≡ true → values_of key s.rows ≡ []
  none_here s ss none on = by (values_of key s.rows) refl
    where
      by : (vs : List Value) → values_of key s.rows ≡ vs → vs ≡ []
      by [] is = refl
      by (v ∷ vs) is = sym is ∙ sym (with_values key s ss on (ap is_filled is)) ∙ none

  none_behind : (s : Source) (ss : List Source) → looked key (s ∷ ss) ≡ [] → looked key ss ≡ []
  none_behind s ss none = by (supports key.category s) refl
    where
      by : (b : Bool) → supports key.category s ≡ b → looked key ss ≡ []
      by false off = sym (not_asked key s ss off) ∙ none
      by true on = sym (without_values key s ss on (none_here s ss none on)) ∙ none

  pub none_found : (ss : List Source) → looked key ss ≡ [] → (n : ℕ) → n < length ss → supports key.category (source_at ss n) ≡ true → values_of key (source_at ss n).rows ≡ []
  none_found [] none n lt on = absurd (omega arith)
  none_found (s ∷ ss) none zero lt on = none_here s ss none on
  none_found (s ∷ ss) none (suc n) lt on = none_found ss (none_behind s ss none) n (omega arith) on
