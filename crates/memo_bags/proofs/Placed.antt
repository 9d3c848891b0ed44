-- Names whose map leads each row's name to its row.
use Rattle.std.proofs.Common.{◌≡◌, ◌≢◌, inl, inr, ℕ, zero, suc, Bool, true, false, List, [], ◌∷◌, ◌++◌, length, set, slice_get, Some, None, refl, sym, ap, ◌∙◌, arith}
use Rattle.std.specs.Prelude.{◌↔◌, ◌⊎◌, IsTrue}
use Rattle.std.specs.Bool.{OnFalse}
use Rattle.std.specs.BTreeMap.{BTreeMap, get}
use Rattle.std.specs.Cmp.Lexicographic.{slice_cmp}
use Rattle.std.specs.Ordering.{is_eq, nat_cmp}
use Rattle.std.proofs.lemmas.Map.Text.{is_eq-slice_cmp}
use Rattle.std.proofs.lemmas.Slice.Eq.{bytes_eq-Decides}
use Rattle.memo_bags.specs.declared.names.NameRow.{NameRow}
use Rattle.memo_bags.specs.proofs_only.Ready.{HasNone, StandsAt}
use Rattle.memo_bags.proofs.Growing.{some_same}

-- each row's name leads to its row
abbrev pub ArePlaced : List NameRow → BTreeMap (List ℕ) ℕ → Type 0
ArePlaced rows places = (i : ℕ) (row : NameRow) → slice_get rows i ≡ Some row → get (slice_cmp nat_cmp) places row.name ≡ Some i

apart : (a b : List ℕ) → a ≢ b → is_eq (slice_cmp nat_cmp a b) ≡ false
apart a b differ = by (is_eq (slice_cmp nat_cmp a b)) refl where
  by : (c : Bool) → is_eq (slice_cmp nat_cmp a b) ≡ c → c ≡ false
  by true e = absurd (differ ((bytes_eq-Decides a b).0 (sym (is_eq-slice_cmp a b) ∙ e)))
  by false e = refl

-- what stands in a list with one more at its end
pushed : (rows : List NameRow) (row r : NameRow) (i : ℕ) → slice_get (rows ++ row ∷ []) i ≡ Some r → (slice_get rows i ≡ Some r) ⊎ ((i ≡ length rows) × (r ≡ row))
pushed [] row r zero at = inr (refl, sym (some_same row r at))
pushed [] row r (suc i) at = absurd (cc)
pushed (x ∷ rows) row r zero at = inl at
pushed (x ∷ rows) row r (suc i) at = by (pushed rows row r i at) where
  by : (slice_get rows i ≡ Some r) ⊎ ((i ≡ length rows) × (r ≡ row)) → (slice_get rows i ≡ Some r) ⊎ ((suc i ≡ suc (length rows)) × (r ≡ row))
  by (inl there) = inl there
  by (inr last) = inr (ap suc last.0, last.1)

-- what stands in a list with another at a place
exchanged : (rows : List NameRow) (place : ℕ) (next : NameRow) (i : ℕ) (r : NameRow) → slice_get (set rows place next) i ≡ Some r
    → ((i ≡ place) × (r ≡ next)) ⊎ ((i ≢ place) × (slice_get rows i ≡ Some r))
exchanged [] place next i r at = absurd (cc)
exchanged (x ∷ rows) zero next zero r at = inl (refl, sym (some_same next r at))
exchanged (x ∷ rows) zero next (suc i) r at = inr ((λ e. omega (arith, e)), at)
exchanged (x ∷ rows) (suc place) next zero r at = inr ((λ e. omega (arith, e)), at)
exchanged (x ∷ rows) (suc place) next (suc i) r at = by (exchanged rows place next i r at) where
  by : ((i ≡ place) × (r ≡ next)) ⊎ ((i ≢ place) × (slice_get rows i ≡ Some r))
      → ((suc i ≡ suc place) × (r ≡ next)) ⊎ ((suc i ≢ suc place) × (slice_get rows i ≡ Some r))
  by (inl this) = inl (ap suc this.0, this.1)
  by (inr other) = inr ((λ e. other.0 (omega (arith, e))), other.1)

-- ---- what is placed still

pub placed_none : (rows : List NameRow) (places : BTreeMap (List ℕ) ℕ) → rows ≡ [] → ArePlaced rows places
placed_none [] places is i row at = absurd (cc)
placed_none (x ∷ rows) places is i row at = absurd (cc)

-- another name leads somewhere
pub placed_other : (rows : List NameRow) (old new : BTreeMap (List ℕ) ℕ) (key name : List ℕ) → key ≡ name → HasNone rows name
    → ((q : List ℕ) → is_eq (slice_cmp nat_cmp key q) ≡ false → get (slice_cmp nat_cmp) new q ≡ get (slice_cmp nat_cmp) old q)
    → ArePlaced rows old → ArePlaced rows new
placed_other rows old new key name same none others placed i row at =
    others row.name (apart key row.name (λ e. none i row at (sym e ∙ same))) ∙ placed i row at

-- rows are the same
pub placed_same : (rows new : List NameRow) (places : BTreeMap (List ℕ) ℕ) → new ≡ rows → ArePlaced rows places → ArePlaced new places
placed_same rows new places same placed i row at = placed i row (ap (λ l. slice_get l i) (sym same) ∙ at)

-- it leads to a row behind the others
pub placed_more : (rows more : List NameRow) (places : BTreeMap (List ℕ) ℕ) (row : NameRow) (place : ℕ) → more ≡ rows ++ row ∷ [] → place ≡ length rows
    → get (slice_cmp nat_cmp) places row.name ≡ Some place → ArePlaced rows places → ArePlaced more places
placed_more rows more places row place is last leads placed i r at = by (pushed rows row r i (ap (λ l. slice_get l i) (sym is) ∙ at)) where
  by : (slice_get rows i ≡ Some r) ⊎ ((i ≡ length rows) × (r ≡ row)) → get (slice_cmp nat_cmp) places r.name ≡ Some i
  by (inl there) = placed i r there
  by (inr this) = ap (λ (x : NameRow). get (slice_cmp nat_cmp) places x.name) this.1 ∙ leads ∙ ap Some (last ∙ sym this.0)

-- a row of the same name stands at a place
pub placed_set : (rows new : List NameRow) (places : BTreeMap (List ℕ) ℕ) (place : ℕ) (row next : NameRow) → slice_get rows place ≡ Some row → new ≡ set rows place next
    → next.name ≡ row.name → ArePlaced rows places → ArePlaced new places
placed_set rows new places place row next there is named placed i r at = by (exchanged rows place next i r (ap (λ l. slice_get l i) (sym is) ∙ at)) where
  by : ((i ≡ place) × (r ≡ next)) ⊎ ((i ≢ place) × (slice_get rows i ≡ Some r)) → get (slice_cmp nat_cmp) places r.name ≡ Some i
  by (inl this) = ap (λ (x : NameRow). get (slice_cmp nat_cmp) places x.name) this.1 ∙ ap (get (slice_cmp nat_cmp) places) named ∙ placed place row there ∙ ap Some (sym this.0)
  by (inr other) = placed i r other.1

-- ---- where a name's row stands

-- a row of another name isn't that of this one
pub not_its : (same : Bool) (rows : List NameRow) (place : ℕ) (row : NameRow) (name : List ℕ) → slice_get rows place ≡ Some row
    → (IsTrue same ↔ row.name ≡ name) → OnFalse same (StandsAt rows place name → ⊥)
not_its true rows place row name at is = tt
not_its false rows place row name at is = λ stands.
    let this : stands.0 ≡ row = some_same stands.0 row (sym stands.1.0 ∙ at) in
    let yes : false ≡ true = is.1 (ap (λ (r : NameRow). r.name) (sym this) ∙ stands.1.1) in
    absurd (cc)

-- a name that leads nowhere has no row
pub none_without : (rows : List NameRow) (places : BTreeMap (List ℕ) ℕ) (name : List ℕ) → ArePlaced rows places → get (slice_cmp nat_cmp) places name ≡ None → HasNone rows name
none_without rows places name placed none i row at is =
    let e : Some i ≡ None = sym (placed i row at) ∙ ap (get (slice_cmp nat_cmp) places) is ∙ none in
    absurd (cc)

-- nor has one that leads to another's row
pub none_elsewhere : (rows : List NameRow) (places : BTreeMap (List ℕ) ℕ) (name : List ℕ) (place : ℕ) → ArePlaced rows places
    → get (slice_cmp nat_cmp) places name ≡ Some place → (StandsAt rows place name → ⊥) → HasNone rows name
none_elsewhere rows places name place placed leads other i row at is =
    let here : i ≡ place = some_same i place (sym (placed i row at) ∙ ap (get (slice_cmp nat_cmp) places) is ∙ leads) in
    other (row, (ap (slice_get rows) (sym here) ∙ at, is))
