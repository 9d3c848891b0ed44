-- The number of the document that a reference finds.
use Rattle.std.proofs.Common.{◌≡◌, ◌∙◌, ◌+◌, ◌<◌, ◌≤◌, ℕ, List, [], ◌∷◌, ◌++◌, true, false, cond, Option, Some, None, ap, sym, refl, arith, get_or, length, map, take}
use Rattle.std.specs.FinMap.{entries}
use Rattle.std.specs.List.{filter, filter_map}
use Rattle.std.specs.Option.{option_map, option_or, option_to_list}
use Rattle.std.proofs.lemmas.List.{append-nil, get_or-map, length-map, map-append, take_all, take_more}
use Rattle.std.proofs.lemmas.List.Elements.{filter-append, filter_map-append}
use Rattle.std.proofs.lemmas.Option.{slice_get-get_or}
use Rattle.ent_policy.specs.declared.document.Tree.{Tree}
use Rattle.ent_policy.specs.declared.key.DocKey.{DocKey}
use Rattle.ent_policy.specs.declared.key.Reference.{Reference}
use Rattle.ent_finder.proofs.Recent.{last, latest_last}
use Rattle.ent_finder.specs.Finding.{most_recent, named, names}
use Rattle.ent_finder.specs.Slots.{Docs}
use Rattle.lint_links.specs.declared.held.Held.{Held}
use Rattle.lint_links.specs.proofs_only.Rows.{entry_of, numbered}

abbrev Entry : Type 0
Entry = DocKey × Tree

last-append : (xs : List Entry) (x : Entry) → last (xs ++ x ∷ []) ≡ Some x
last-append [] x = refl
last-append (y ∷ ys) x = ap (λ o. option_or o (Some y)) (last-append ys x)

-- the last of the first entries that a reference names
abbrev pub last_named : Reference → List Entry → ℕ → Option (Option Tree)
last_named r es i = option_map (λ e. Some e.1) (last (filter (λ e. names r e.0) (take i es)))

module _ (r : Reference) (es : List Entry) (i : ℕ) (e : Entry) (within : i < length es) (is : e ≡ get_or es i e) where
  one_more : filter (λ e. names r e.0) (take (i + 1) es) ≡ filter (λ e. names r e.0) (take i es) ++ cond (names r e.0) (e ∷ []) []
  one_more = ap (filter (λ e. names r e.0)) (take_more es i e within ∙ ap (λ x. take i es ++ x ∷ []) (sym is)) ∙ filter-append (λ e. names r e.0) (take i es) (e ∷ [])

  there : numbered es i ≡ Some e.1
  there = ap (option_map (λ e. e.1)) (slice_get-get_or es i e within ∙ ap Some (sym is))

  -- one entry more, that is named
  pub last_is : names r e.0 ≡ true → option_map (numbered es) (Some i) ≡ last_named r es (i + 1)
  last_is passes =
      ap Some there
      ∙ sym (ap (option_map (λ e. Some e.1)) (ap last (one_more ∙ ap (λ b. filter (λ e. names r e.0) (take i es) ++ cond b (e ∷ []) []) passes) ∙ last-append (filter (λ e. names r e.0) (take i es)) e))

  -- one that isn't
  pub last_stays : names r e.0 ≡ false → last_named r es i ≡ last_named r es (i + 1)
  last_stays fails =
      sym (ap (λ xs. option_map (λ (e : Entry). Some e.1) (last xs)) (one_more ∙ ap (λ b. filter (λ e. names r e.0) (take i es) ++ cond b (e ∷ []) []) fails ∙ append-nil (filter (λ e. names r e.0) (take i es))))

twice : (o : Option Entry) → option_map (λ e. Some e.1) o ≡ option_map Some (option_map (λ e. e.1) o)
twice None = refl
twice (Some e) = refl

-- all entries: the last one is the most recent
pub last_all : (r : Reference) (docs : Docs) (i : ℕ) → length (entries docs) ≤ i → last_named r (entries docs) i ≡ option_map Some (most_recent r docs)
last_all r docs i past =
    ap (λ es. option_map (λ (e : Entry). Some e.1) (last (filter (λ e. names r e.0) es))) (take_all i (entries docs) past)
    ∙ twice (last (named r docs)) ∙ ap (λ o. option_map Some (option_map (λ (e : Entry). e.1) o)) (sym (latest_last r docs))

-- the entry of a document stands at its number
pub entry_there : (all : List Held) (es : List Entry) (i : ℕ) (x : Held) → map entry_of all ≡ es → i < length all → x ≡ get_or all i x → (i < length es) × (entry_of x ≡ get_or es i (entry_of x))
entry_there all es i x listed within is =
    let many = length-map all entry_of in
    let same : length (map entry_of all) ≡ length es = ap length listed in (
      omega (arith, within, many, same),
      ap entry_of is ∙ sym (get_or-map entry_of all i x (entry_of x) within) ∙ ap (λ xs. get_or xs i (entry_of x)) listed,
    )

-- there are as many entries
pub entries_past : (all : List Held) (es : List Entry) (i : ℕ) → map entry_of all ≡ es → length all ≤ i → length es ≤ i
entries_past all es i listed past =
    let many = length-map all entry_of in
    let same : length (map entry_of all) ≡ length es = ap length listed in
    omega (arith, past, many, same)

-- ---- rows of numbers

module _ {A B : Type 0} (g : ℕ → Option B) (h : A → Option B) (xs : List A) (i : ℕ) (x : A) (within : i < length xs) (is : x ≡ get_or xs i x) where
  found_more : filter_map h (take (i + 1) xs) ≡ filter_map h (take i xs) ++ filter_map h (x ∷ [])
  found_more = ap (filter_map h) (take_more xs i x within ∙ ap (λ y. take i xs ++ y ∷ []) (sym is)) ∙ filter_map-append h (take i xs) (x ∷ [])

  -- what one element finds
  of_one : (n : ℕ) → Some (g n) ≡ option_map Some (h x) → g n ∷ [] ≡ map Some (filter_map h (x ∷ []))
  of_one n found = by (h x) refl
    where
      by : (o : Option B) → h x ≡ o → g n ∷ [] ≡ map Some (filter_map h (x ∷ []))
      by None e = absurd cc
      by (Some b) e = cc

  of_none : None ≡ option_map {U = Option B} Some (h x) → filter_map h (x ∷ []) ≡ []
  of_none none = by (h x) refl
    where
      by : (o : Option B) → h x ≡ o → filter_map h (x ∷ []) ≡ []
      by None e = cc
      by (Some b) e = absurd cc

  -- one that is found
  pub row_more : (row : List ℕ) (n : ℕ) → Some (g n) ≡ option_map Some (h x) → map g row ≡ map Some (filter_map h (take i xs))
      → map g (row ++ n ∷ []) ≡ map Some (filter_map h (take (i + 1) xs))
  row_more row n found before =
      map-append g row (n ∷ []) ∙ ap (λ ys. ys ++ g n ∷ []) before ∙ ap (λ ys. map Some (filter_map h (take i xs)) ++ ys) (of_one n found)
      ∙ sym (map-append Some (filter_map h (take i xs)) (filter_map h (x ∷ []))) ∙ ap (map Some) (sym found_more)

  -- one that isn't
  pub row_same : (row : List ℕ) → None ≡ option_map {U = Option B} Some (h x) → map g row ≡ map Some (filter_map h (take i xs)) → map g row ≡ map Some (filter_map h (take (i + 1) xs))
  row_same row none before =
      before ∙ ap (map Some) (sym (append-nil (filter_map h (take i xs))) ∙ ap (λ ys. filter_map h (take i xs) ++ ys) (sym (of_none none)) ∙ sym found_more)

  -- one more
  pub row_step : (row : List ℕ) (o : Option ℕ) → option_map g o ≡ option_map Some (h x) → map g row ≡ map Some (filter_map h (take i xs))
      → map g (row ++ option_to_list o) ≡ map Some (filter_map h (take (i + 1) xs))
  row_step row None found before = ap (map g) (append-nil row) ∙ row_same row found before
  row_step row (Some n) found before = row_more row n found before
