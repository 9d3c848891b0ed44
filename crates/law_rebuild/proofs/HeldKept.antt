-- What modules hold stays sound.
use Rattle.std.proofs.Common.{◌≡◌, ℕ, zero, suc, ◌+◌, ◌-◌, ◌<◌, ◌≤◌, Bool, true, false, List, [], ◌∷◌, length, Option, Some, None, refl, sym, ap, subst, ◌∙◌}
use Rattle.std.proofs.Common.{arith}
use Rattle.std.specs.Prelude.{cond, map, slice_index_or, slice_set}
use Rattle.std.specs.Cmp.{IsTotalOrder}
use Rattle.std.specs.FinMap.{FinMap, IsAntisymmetric, contains_key, empty, get, get-empty, get-insert, get-remove, insert, len, len-insert, len-remove, remove}
use Rattle.std.specs.Ordering.{eq_by_cmp}
use Rattle.std.specs.declared.cmp.Ordering.{Ordering}
use Rattle.std.proofs.lemmas.List.Sums.{sum_by-set}
use Rattle.ent_values.specs.declared.value.Value.{Value}
use Rattle.ent_policy.specs.declared.document.Tree.{Tree}
use Rattle.ent_policy.specs.declared.key.DocKey.{DocKey}
use Rattle.ent_finder.proofs.Totals.{key_cmp_total, row_cmp_total}
use Rattle.ent_finder.proofs.Keys.{key_cmp_antisymmetric}
use Rattle.ent_finder.proofs.RowKeys.{row_cmp_antisymmetric}
use Rattle.ent_finder.proofs.Sorted.{equal}
use Rattle.ent_finder.specs.Rows.{Rows, Source, row_cmp, source_at, with_row}
use Rattle.ent_finder.specs.Slots.{Docs, key_cmp, module_at, with_document}
use Rattle.ent_finder.specs.declared.row.RowKey.{RowKey}
use Rattle.law_rebuild.specs.Rebuilding.{emptied_modules, emptied_source}
use Rattle.law_rebuild.specs.Sound.{IsSoundDocument, IsSoundRow}
use Rattle.law_rebuild.proofs.Counting.{row_count}

-- ---- maps

module _ {K X : Type 0} {R : K → K → Ordering} (o : IsTotalOrder R) (same : IsAntisymmetric R) (P : K → X → Type 0) (m : FinMap R X) (k : K) where
  -- what holds of each entry, with another entry put in
  pub insert_keeps : (v : X) → P k v → ((q : K) (x : X) → get m q ≡ Some x → P q x) → (q : K) (x : X) → get (insert m k v) q ≡ Some x → P q x
  insert_keeps v here rest q x is = by (eq_by_cmp R q k) refl (sym (get-insert o m k v q) ∙ is)
    where
      by : (b : Bool) → eq_by_cmp R q k ≡ b → cond b (Some v) (get m q) ≡ Some x → P q x
      by true t e =
          let key : k ≡ q = sym (same q k (equal _ t)) in
          let value : v ≡ x = cc in
          subst (λ (y : X). P q y) value (subst (λ (p : K). P p v) key here)
      by false t e = rest q x e

  -- or with one taken out
  pub remove_keeps : ((q : K) (x : X) → get m q ≡ Some x → P q x) → (q : K) (x : X) → get (remove m k) q ≡ Some x → P q x
  remove_keeps rest q x is = by (eq_by_cmp R q k) (sym (get-remove o m k q) ∙ is)
    where
      by : (b : Bool) → cond b None (get m q) ≡ Some x → P q x
      by true e = cc
      by false e = rest q x e

  pub len-insert-le : (v : X) → len (insert m k v) ≤ len m + 1
  len-insert-le v = by (contains_key m k) (len-insert o m k v)
    where
      by : (b : Bool) → len (insert m k v) ≡ cond b (len m) (len m + 1) → len (insert m k v) ≤ len m + 1
      by true e = omega arith
      by false e = omega arith

  pub len-remove-le : len (remove m k) ≤ len m
  len-remove-le = by (contains_key m k) (len-remove o m k)
    where
      by : (b : Bool) → len (remove m k) ≡ cond b (len m - 1) (len m) → len (remove m k) ≤ len m
      by true e = omega arith
      by false e = omega arith

-- what holds of each module, with another in place of one
pub set_each : {A : Type 0} (P : A → Type 0) (d : A) (xs : List A) (n : ℕ) (y : A) → P y → ((i : ℕ) → P (slice_index_or xs i d)) → (i : ℕ)
    → P (slice_index_or (slice_set xs n y) i d)
set_each P d [] n y here rest i = rest i
set_each P d (x ∷ xs) zero y here rest zero = here
set_each P d (x ∷ xs) zero y here rest (suc i) = rest (suc i)
set_each P d (x ∷ xs) (suc n) y here rest zero = rest 0
set_each P d (x ∷ xs) (suc n) y here rest (suc i) = set_each P d xs n y here (λ j. rest (suc j)) i

-- ---- documents

-- each document of a module is sound
abbrev pub IsSoundModule : Docs → Type 0
IsSoundModule m = (key : DocKey) (document : Tree) → get m key ≡ Some document → IsSoundDocument key document

abbrev pub IsSoundUnder : DocKey → Option Tree → Type 0
IsSoundUnder key None = Unit {0}
IsSoundUnder key (Some document) = IsSoundDocument key document

pub module_kept : (m : Docs) (key : DocKey) (o : Option Tree) → IsSoundModule m → IsSoundUnder key o → IsSoundModule (with_document m key o)
module_kept m key None sound here = remove_keeps key_cmp_total key_cmp_antisymmetric IsSoundDocument m key sound
module_kept m key (Some d) sound here = insert_keeps key_cmp_total key_cmp_antisymmetric IsSoundDocument m key d here sound

pub no_module : (ms : List Docs) (i : ℕ) → module_at (emptied_modules ms) i ≡ empty
no_module [] i = refl
no_module (m ∷ ms) zero = refl
no_module (m ∷ ms) (suc i) = no_module ms i

pub no_document_sound : (ms : List Docs) (i : ℕ) → IsSoundModule (module_at (emptied_modules ms) i)
no_document_sound ms i key document is =
    let none : get (module_at (emptied_modules ms) i) key ≡ None = ap (λ (m : Docs). get m key) (no_module ms i) ∙ get-empty key_cmp key in
    cc

-- other documents in a module leave it empty where they all go
pub same_modules : (ms : List Docs) (n : ℕ) (m : Docs) → emptied_modules (slice_set ms n m) ≡ emptied_modules ms
same_modules [] n m = refl
same_modules (x ∷ ms) zero m = refl
same_modules (x ∷ ms) (suc n) m = ap (λ (l : List Docs). empty ∷ l) (same_modules ms n m)

-- ---- rows

-- each row of a module is sound
abbrev pub IsSoundSource : Source → Type 0
IsSoundSource c = (key : RowKey) (values : List Value) → get c.rows key ≡ Some values → IsSoundRow c key values

moved : (c : Source) (rows : Rows) (key : RowKey) (values : List Value) → IsSoundRow c key values → IsSoundRow (record c { rows = rows }) key values
moved c rows key values sound = record { filled = sound.filled; most = sound.most; free = sound.free; good = sound.good; supported = sound.supported }

-- with values that can be set, or with none
abbrev pub IsSoundWith : Source → RowKey → List Value → Type 0
IsSoundWith c key [] = Unit {0}
IsSoundWith c key (v ∷ vs) = IsSoundRow c key (v ∷ vs)

rows_kept : (c : Source) (key : RowKey) (values : List Value) → IsSoundSource c → IsSoundWith c key values → (q : RowKey) (vs : List Value)
    → get (with_row c.rows key values) q ≡ Some vs → IsSoundRow c q vs
rows_kept c key [] sound here = remove_keeps row_cmp_total row_cmp_antisymmetric (IsSoundRow c) c.rows key sound
rows_kept c key (v ∷ vs) sound here = insert_keeps row_cmp_total row_cmp_antisymmetric (IsSoundRow c) c.rows key (v ∷ vs) here sound

pub source_kept : (c : Source) (key : RowKey) (values : List Value) → IsSoundSource c → IsSoundWith c key values
    → IsSoundSource (record c { rows = with_row c.rows key values })
source_kept c key values sound here q vs is = moved c (with_row c.rows key values) q vs (rows_kept c key values sound here q vs is)

pub no_rows : (cs : List Source) (i : ℕ) → (source_at (map emptied_source cs) i).rows ≡ empty
no_rows [] i = refl
no_rows (c ∷ cs) zero = refl
no_rows (c ∷ cs) (suc i) = no_rows cs i

pub no_row_sound : (cs : List Source) (i : ℕ) → IsSoundSource (source_at (map emptied_source cs) i)
no_row_sound cs i key values is =
    let none : get (source_at (map emptied_source cs) i).rows key ≡ None = ap (λ (m : Rows). get m key) (no_rows cs i) ∙ get-empty row_cmp key in
    cc

pub same_sources : (cs : List Source) (n : ℕ) (rows : Rows) → map emptied_source
    (slice_set cs n (record (source_at cs n) { rows = rows })) ≡ map emptied_source cs
same_sources [] n rows = refl
same_sources (c ∷ cs) zero rows = refl
same_sources (c ∷ cs) (suc n) rows = ap (λ (l : List Source). emptied_source c ∷ l) (same_sources cs n rows)

-- a row more at most
len-with_row : (rows : Rows) (key : RowKey) (values : List Value) → len (with_row rows key values) ≤ len rows + 1
len-with_row rows key [] = omega (arith, len-remove-le row_cmp_total row_cmp_antisymmetric (λ _ _. Unit {0}) rows key)
len-with_row rows key (v ∷ vs) = len-insert-le row_cmp_total row_cmp_antisymmetric (λ _ _. Unit {0}) rows key (v ∷ vs)

pub row_count_more : (cs : List Source) (n : ℕ) (key : RowKey) (values : List Value) → n < length cs
    → row_count (slice_set cs n (record (source_at cs n) { rows = with_row (source_at cs n).rows key values })) ≤ row_count cs + 1
row_count_more cs n key values h =
    omega (
      arith,
      len-with_row (source_at cs n).rows key values,
      sum_by-set (λ (c : Source). len c.rows) cs n
          (record (source_at cs n) { rows = with_row (source_at cs n).rows key values }) (record { categories = []; rows = empty }) h,
    )
