-- The cells of a key, by what the index has.
use Rattle.std.proofs.Common.{◌≡◌, arith, T, List, [], ◌∷◌, Option, Some, None, refl, sym}
use Rattle.std.specs.FinMap.{contains_key-keys, entries, entries_sorted, get, is_sorted}
use Rattle.std.specs.FinMap.Entries.{below_all}
use Rattle.std.specs.List.{AllByRecursion, list_any}
use Rattle.std.specs.List.Sorted.{IsStrictlyIncreasing, IsStrictlySortedBy}
use Rattle.std.specs.Map.{keys_of}
use Rattle.std.specs.Option.{option_map_or}
use Rattle.std.specs.Ordering.{is_eq, is_lt, nat_cmp}
use Rattle.std.specs.declared.cmp.Ordering.{Ordering}
use Rattle.std.specs.declared.cmp.Ordering.TheVariants.{Less}
use Rattle.std.proofs.lemmas.Map.Keys.{IsStrictlyIncreasing-from_sorted}
use Rattle.ent_finder.proofs.Sorted.{first, is_true, less, second}
use Rattle.ent_index.specs.Cells.{CellSet, in_order}
use Rattle.ent_index.specs.Index.{has_in}
use Rattle.ent_index.specs.Law.{CellsReadTheirKey, CellsRise}

pub cells_read : CellsReadTheirKey
cells_read index k c = by (get index k)
  where
    by : (o : Option CellSet) → list_any (λ cell. is_eq (nat_cmp c cell)) (option_map_or in_order o []) ≡ has_in o c
    by None = refl
    by (Some s) = sym (contains_key-keys s c)

module _ {K X : Type 0} (R : K → K → Ordering) where
  below : (x : K) (es : List (K × X)) → T (below_all R x es) → AllByRecursion (λ y. R x y ≡ Less) (keys_of es)
  below x [] h = tt
  below x (e ∷ es) h = (less _ (is_true _ (first (is_lt (R x e.0)) (below_all R x es) h)), below x es (second (is_lt (R x e.0)) (below_all R x es) h))

  ordered-from_sorted : (es : List (K × X)) → T (is_sorted R es) → IsStrictlySortedBy R (keys_of es)
  unfolding IsStrictlySortedBy
  ordered-from_sorted [] s = tt
  ordered-from_sorted (e ∷ es) s = (below e.0 es (first (below_all R e.0 es) (is_sorted R es) s), ordered-from_sorted es (second (below_all R e.0 es) (is_sorted R es) s))

rising : (cells : CellSet) → IsStrictlyIncreasing (in_order cells)
rising cells = IsStrictlyIncreasing-from_sorted (in_order cells) (ordered-from_sorted nat_cmp (entries cells) (entries_sorted cells))

pub cells_rise : CellsRise
cells_rise index k = by (get index k)
  where
    by : (o : Option CellSet) → IsStrictlyIncreasing (option_map_or in_order o [])
    by None = λ i lt. absurd (omega arith)
    by (Some s) = rising s
