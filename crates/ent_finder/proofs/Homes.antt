-- The block where the row of a key is or would go, and the blocks that have the rows which a key names.
use Rattle.std.proofs.Common.{◌≡◌, ℕ, zero, suc, ◌+◌, ◌-◌, ◌<◌, ◌≤◌, true, false, cond, not, T, List, [], ◌∷◌, ◌++◌, drop, is_some, length, take, None, Result, Ok, Err, OnErr, OnOk, slice_index_or as get_or, slice_set as set, refl, sym, ap, subst, ◌∙◌, arith}
use Rattle.std.specs.FinMap.{entries, entries-from_sorted, entries-insert, find, from_sorted, get, get-from_sorted, insert, is_sorted, put, same_entries_map}
use Rattle.std.specs.FinMap.Entries.{below_all, by_order, is_sorted-put, length-put}
use Rattle.std.specs.List.{list_all}
use Rattle.std.specs.List.Sorted.{IsPartitionPoint}
use Rattle.std.specs.Bool.{◌==◌}
use Rattle.std.specs.Ordering.{is_gt, is_le, is_lt, ordering_reverse}
use Rattle.std.specs.declared.cmp.Ordering.{Ordering}
use Rattle.std.specs.declared.cmp.Ordering.TheVariants.{Less, Equal, Greater}
use Rattle.std.proofs.lemmas.List.{length-map, map-append}
use Rattle.ent_values.specs.declared.value.Value.{Value}
use Rattle.ent_finder.proofs.BlockRows.{Follows, IsBelow, around, around_set, before_block, follows_from, from_block, order_of_head, sorted_in_back, sorted_in_front}
use Rattle.ent_finder.proofs.Parts.{all_before, find_between, put_between}
use Rattle.ent_finder.proofs.Ranges.{Rises, rises_with}
use Rattle.ent_finder.proofs.Sorted.{both, element, first, second}
use Rattle.ent_finder.specs.Blocks.{rows_in}
use Rattle.ent_finder.specs.proofs_only.Blocks.{IsHome, first_cmp}
use Rattle.ent_finder.specs.RowEntry.{RowsAreSorted, row_entries, row_entry, rows_of}
use Rattle.ent_finder.specs.Rows.{row_cmp}
use Rattle.ent_finder.proofs.Totals.{row_cmp_total}
use Rattle.ent_finder.specs.declared.block.Block.{Block}
use Rattle.ent_finder.specs.declared.row.Row.{Row}
use Rattle.ent_finder.specs.declared.row.RowKey.{RowKey}

-- ---- the home of a key

-- how a row stands to the key
abbrev pub to_key : RowKey → Row → Ordering
to_key k r = row_cmp r.key k

pub to_key_rises : (k : RowKey) (rs : List Row) → RowsAreSorted rs → Rises (to_key k) rs
to_key_rises k rs s = rises_with row_cmp row_entry row_cmp_total (λ (r : Row). r.key) (λ x y before. ap is_gt before) rs s k

pub to_key_follows : (k : RowKey) → Follows (to_key k)
to_key_follows k = follows_from (to_key k) (to_key_rises k)

before_le : (x y k : RowKey) → row_cmp x y ≡ Less → is_le (row_cmp y k) ≡ true → is_lt (row_cmp x k) ≡ true
before_le x y k h le = by (row_cmp y k) refl le
  where
    by : (r : Ordering) → row_cmp y k ≡ r → is_le r ≡ true → is_lt (row_cmp x k) ≡ true
    by Less e le = ap is_lt (row_cmp_total.trans x y k h e)
    by Equal e le =
        let turned : row_cmp k y ≡ Equal = row_cmp_total.antisymm k y ∙ ap ordering_reverse e in
        let back : row_cmp k x ≡ Greater = row_cmp_total.congr k y x turned ∙ row_cmp_total.antisymm y x ∙ ap ordering_reverse h in
        ap is_lt (row_cmp_total.antisymm x k ∙ ap ordering_reverse back)
    by Greater e le = cc

past : (r : Ordering) → not (is_le r) ≡ true → r ≡ Greater
past Less h = cc
past Equal h = cc
past Greater h = refl

-- a key behind which a row stands comes before it
behind_key : (x k : RowKey) → not (is_le (row_cmp x k)) ≡ true → row_cmp k x ≡ Less
behind_key x k h = row_cmp_total.antisymm k x ∙ ap ordering_reverse (past (row_cmp x k) h)

behind_next : (x y k : RowKey) → row_cmp x y ≡ Less → not (is_le (row_cmp x k)) ≡ true → is_lt (row_cmp k y) ≡ true
behind_next x y k h p = ap is_lt (row_cmp_total.trans k x y (behind_key x k p) h)

entries_before : (k : RowKey) (rs : List Row) → T (list_all (λ r. is_lt (row_cmp r.key k)) rs) → T (all_before row_cmp k (row_entries rs))
entries_before k [] t = tt
entries_before k (r ∷ rs) t =
    let rest = list_all (λ (x : Row). is_lt (row_cmp x.key k)) rs in
    both (is_lt (row_cmp r.key k)) (all_before row_cmp k (row_entries rs)) (first (is_lt (row_cmp r.key k)) rest t) (entries_before k rs (second (is_lt (row_cmp r.key k)) rest t))

entries_behind : (k : RowKey) (rs : List Row) → T (list_all (λ r. is_lt (row_cmp k r.key)) rs) → IsBelow k rs
entries_behind k [] t = tt
entries_behind k (r ∷ rs) t =
    let rest = list_all (λ (x : Row). is_lt (row_cmp k x.key)) rs in
    both (is_lt (row_cmp k r.key)) (below_all row_cmp k (row_entries rs)) (first (is_lt (row_cmp k r.key)) rest t) (entries_behind k rs (second (is_lt (row_cmp k r.key)) rest t))

module _ (k : RowKey) (bs : List Block) (s : RowsAreSorted (rows_in bs)) where
  abbrev begun : Block → Ordering
  begun b = first_cmp (to_key k) b.rows.items

  pub home_found : (p : ℕ) → p ≤ length bs → IsPartitionPoint (λ b. is_le (begun b) ≡ true) (λ b. is_le (begun b) ≡ false) bs p → IsHome k bs (p - 1)
  home_found p within at = by p within at
    where
      front : (n : ℕ) → n < length bs → ((d : Block) → is_le (begun (get_or bs n d)) ≡ true) → T (all_before row_cmp k (row_entries (rows_in (take n bs))))
      front n lt h =
          let d = (element bs n lt).0 in
          entries_before k (rows_in (take n bs))
          (before_block (λ r. is_lt (row_cmp r.key k)) (λ r. is_le (row_cmp r.key k)) (λ x y. before_le x.key y.key k) bs n d s lt
          (sym (ap is_le (order_of_head (to_key k) (get_or bs n d))) ∙ h d))

      back : (n : ℕ) → ((j : ℕ) (d : Block) → n ≤ j → j < length bs → is_le (begun (get_or bs j d)) ≡ false) → IsBelow k (rows_in (drop n bs))
      back n h =
          entries_behind k (rows_in (drop n bs))
          (from_block (λ r. is_lt (row_cmp k r.key)) (λ r. not (is_le (row_cmp r.key k))) (λ x p. ap is_lt (behind_key x.key k p)) (λ x y. behind_next x.key y.key k) bs n s
          (λ j d le lt. ap not (sym (ap is_le (order_of_head (to_key k) (get_or bs j d))) ∙ h j d le lt)))

      by : (q : ℕ) → q ≤ length bs → IsPartitionPoint (λ b. is_le (begun b) ≡ true) (λ b. is_le (begun b) ≡ false) bs q → IsHome k bs (q - 1)
      by zero le at = record { in_front = tt; behind = back 1 (λ j d le lt. at.1 j d (omega arith) lt) }
      by (suc n) le at =
          let it : IsHome k bs n = record { in_front = front n (omega arith) (λ d. at.0 n d (omega arith) (omega arith)); behind = back (suc n) at.1 } in
          let is : n ≡ suc n - 1 = omega arith in
          subst (IsHome k bs) is it

-- ---- an exchange in one block is one in all of them

module _ (xs mid ys : List Row) where
  apart : row_entries (xs ++ (mid ++ ys)) ≡ row_entries xs ++ (row_entries mid ++ row_entries ys)
  apart = map-append row_entry xs (mid ++ ys) ∙ ap (λ es. row_entries xs ++ es) (map-append row_entry mid ys)

module _ (k : RowKey) (xs mid ys : List Row) (in_front : T (all_before row_cmp k (row_entries xs))) (behind : IsBelow k ys) (s : RowsAreSorted (xs ++ (mid ++ ys))) where
  sorted_mid : RowsAreSorted mid
  sorted_mid = sorted_in_front mid ys (sorted_in_back xs (mid ++ ys) s)

  pub got_inside : get (rows_of (xs ++ (mid ++ ys))) k ≡ get (rows_of mid) k
  got_inside =
      get-from_sorted row_cmp (row_entries (xs ++ (mid ++ ys))) k s ∙ (λ t. find row_cmp k (apart xs mid ys t))
      ∙ find_between row_cmp_total k (row_entries xs) (row_entries mid) (row_entries ys) in_front behind ∙ sym (get-from_sorted row_cmp (row_entries mid) k sorted_mid)

  module _ (new : List Row) (v : List Value) (sorted : RowsAreSorted new) (is : rows_of new ≡ insert (rows_of mid) k v) where
    put_inside : row_entries (xs ++ (new ++ ys)) ≡ put row_cmp k v (row_entries (xs ++ (mid ++ ys)))
    put_inside =
        let here : row_entries new ≡ put row_cmp k v (row_entries mid) =
        sym (entries-from_sorted row_cmp (row_entries new) sorted) ∙ ap entries is ∙ entries-insert row_cmp_total (rows_of mid) k v
        ∙ ap (put row_cmp k v) (entries-from_sorted row_cmp (row_entries mid) sorted_mid) in
        apart xs new ys ∙ ap (λ es. row_entries xs ++ (es ++ row_entries ys)) here
        ∙ sym (ap (put row_cmp k v) (apart xs mid ys) ∙ put_between row_cmp_total k (row_entries xs) (row_entries mid) (row_entries ys) in_front behind v)

    pub sorted_inside : RowsAreSorted (xs ++ (new ++ ys))
    sorted_inside = subst (λ es. T (is_sorted row_cmp es)) (sym put_inside) (is_sorted-put row_cmp row_cmp_total k v (row_entries (xs ++ (mid ++ ys))) s)

    pub inserted_inside : rows_of (xs ++ (new ++ ys)) ≡ insert (rows_of (xs ++ (mid ++ ys))) k v
    inserted_inside =
        same_entries_map _ _ (entries-from_sorted row_cmp (row_entries (xs ++ (new ++ ys))) sorted_inside ∙ put_inside
        ∙ ap (put row_cmp k v) (sym (entries-from_sorted row_cmp (row_entries (xs ++ (mid ++ ys))) s)) ∙ sym (entries-insert row_cmp_total (rows_of (xs ++ (mid ++ ys))) k v))

  module _ (new : List Row) (sorted : RowsAreSorted new) (is : rows_of new ≡ rows_of mid) where
    pub stays_inside : row_entries (xs ++ (new ++ ys)) ≡ row_entries (xs ++ (mid ++ ys))
    stays_inside =
        let here : row_entries new ≡ row_entries mid =
        sym (entries-from_sorted row_cmp (row_entries new) sorted) ∙ ap entries is ∙ entries-from_sorted row_cmp (row_entries mid) sorted_mid in
        apart xs new ys ∙ ap (λ es. row_entries xs ++ (es ++ row_entries ys)) here ∙ sym (apart xs mid ys)

-- ---- the same of a block at a number

module _ (k : RowKey) (bs : List Block) (n : ℕ) (b : Block) (lt : n < length bs) (is : b ≡ get_or bs n b) (s : RowsAreSorted (rows_in bs)) (home : IsHome k bs n) where
  whole : RowsAreSorted (rows_in (take n bs) ++ (b.rows.items ++ rows_in (drop (suc n) bs)))
  whole = subst RowsAreSorted (around bs n b lt is) s

  pub got_at : get (rows_of (rows_in bs)) k ≡ get (rows_of b.rows.items) k
  got_at =
      ap (λ rs. get (rows_of rs) k) (around bs n b lt is)
      ∙ got_inside k (rows_in (take n bs)) b.rows.items (rows_in (drop (suc n) bs)) home.in_front home.behind whole

  module _ (new : Block) (sorted : RowsAreSorted new.rows.items) where
    pub exchanged_sorted : (v : List Value) → rows_of new.rows.items ≡ insert (rows_of b.rows.items) k v → RowsAreSorted (rows_in (set bs n new))
    exchanged_sorted v eq =
        subst RowsAreSorted (sym (around_set bs n new lt))
        (sorted_inside k (rows_in (take n bs)) b.rows.items (rows_in (drop (suc n) bs)) home.in_front home.behind whole new.rows.items v sorted eq)

    pub exchanged_at : (v : List Value) → rows_of new.rows.items ≡ insert (rows_of b.rows.items) k v → rows_of (rows_in (set bs n new)) ≡ insert (rows_of (rows_in bs)) k v
    exchanged_at v eq =
        ap rows_of (around_set bs n new lt)
        ∙ inserted_inside k (rows_in (take n bs)) b.rows.items (rows_in (drop (suc n) bs)) home.in_front home.behind whole new.rows.items v sorted eq
        ∙ ap (λ rs. insert (rows_of rs) k v) (sym (around bs n b lt is))

    same_entries : rows_of new.rows.items ≡ rows_of b.rows.items → row_entries (rows_in (set bs n new)) ≡ row_entries (rows_in bs)
    same_entries eq =
        ap row_entries (around_set bs n new lt)
        ∙ stays_inside k (rows_in (take n bs)) b.rows.items (rows_in (drop (suc n) bs)) home.in_front home.behind whole new.rows.items sorted eq
        ∙ ap row_entries (sym (around bs n b lt is))

    pub kept_at : rows_of new.rows.items ≡ rows_of b.rows.items → rows_of (rows_in (set bs n new)) ≡ rows_of (rows_in bs)
    kept_at eq = ap (λ es. from_sorted {R = row_cmp} es) (same_entries eq)

    kept_sorted : rows_of new.rows.items ≡ rows_of b.rows.items → RowsAreSorted (rows_in (set bs n new))
    kept_sorted eq = subst (λ es. T (is_sorted row_cmp es)) (sym (same_entries eq)) s

    -- whether the exchange was refused or not
    pub sorted_at : {E : Type 0} {A : Type 0} (v : List Value) (r : Result A E) → OnOk r (rows_of new.rows.items ≡ insert (rows_of b.rows.items) k v) → OnErr r (rows_of new.rows.items ≡ rows_of b.rows.items) → RowsAreSorted (rows_in (set bs n new))
    sorted_at v (Ok x) done kept = exchanged_sorted v done
    sorted_at v (Err e) done kept = kept_sorted kept

-- ---- no blocks

pub nothing_in : (k : RowKey) (bs : List Block) → length bs ≡ 0 → get (rows_of (rows_in bs)) k ≡ None
nothing_in k [] e = get-from_sorted row_cmp [] k tt
nothing_in k (b ∷ bs) e = absurd (omega arith)

-- ---- how many rows there are

put_filled : (k : RowKey) (v : List Value) (es : List (RowKey × List Value)) → 0 < length (put row_cmp k v es)
put_filled k v [] = omega arith
put_filled k v (e ∷ es) = by (row_cmp k e.0)
  where
    by : (r : Ordering) → 0 < length (by_order r ((k, v) ∷ e ∷ es) ((e.0, v) ∷ es) (e ∷ put row_cmp k v es))
    by Less = omega arith
    by Equal = omega arith
    by Greater = omega arith

module _ (old new : List Row) (s : RowsAreSorted old) (sorted : RowsAreSorted new) where
  entries_kept : rows_of new ≡ rows_of old → row_entries new ≡ row_entries old
  entries_kept eq = sym (entries-from_sorted row_cmp (row_entries new) sorted) ∙ ap entries eq ∙ entries-from_sorted row_cmp (row_entries old) s

  entries_put : (k : RowKey) (v : List Value) → rows_of new ≡ insert (rows_of old) k v → row_entries new ≡ put row_cmp k v (row_entries old)
  entries_put k v eq =
      sym (entries-from_sorted row_cmp (row_entries new) sorted) ∙ ap entries eq ∙ entries-insert row_cmp_total (rows_of old) k v ∙ ap (put row_cmp k v) (entries-from_sorted row_cmp (row_entries old) s)

  pub kept_length : rows_of new ≡ rows_of old → length new ≡ length old
  kept_length eq = sym (length-map new row_entry) ∙ ap length (entries_kept eq) ∙ length-map old row_entry

  pub put_length : (k : RowKey) (v : List Value) → rows_of new ≡ insert (rows_of old) k v → length new ≡ cond (is_some (get (rows_of old) k)) (length old) (length old + 1)
  put_length k v eq =
      sym (length-map new row_entry) ∙ ap length (entries_put k v eq) ∙ length-put row_cmp row_cmp_total k v (row_entries old) s
      ∙ (λ t. cond (is_some (sym (get-from_sorted row_cmp (row_entries old) k s) t)) (length-map old row_entry t) (length-map old row_entry t + 1))

  pub put_not_empty : (k : RowKey) (v : List Value) → rows_of new ≡ insert (rows_of old) k v → 0 < length new
  put_not_empty k v eq = subst (λ m. 0 < m) (ap length (sym (entries_put k v eq)) ∙ length-map new row_entry) (put_filled k v (row_entries old))

  -- whether an exchange was refused or not, there are rows where there were some
  pub still_filled : {A E : Type 0} (k : RowKey) (v : List Value) (r : Result A E) → OnOk r (rows_of new ≡ insert (rows_of old) k v) → OnErr r (rows_of new ≡ rows_of old) → 0 < length old → 0 < length new
  still_filled k v (Ok x) done kept some = put_not_empty k v done
  still_filled k v (Err e) done kept some = subst (λ m. 0 < m) (sym (kept_length kept)) some

-- ---- of lengths and results

pub some_there : (n : ℕ) → false ≡ (n == 0) → 0 < n
some_there zero e = cc
some_there (suc n) e = omega arith

pub none_where : (n size : ℕ) → (0 < size → n < size) → size ≤ n → size ≡ 0
none_where n zero within past = refl
none_where n (suc size) within past = let lt = within (omega arith) in absurd (omega (arith, lt))

pub on_ok : {A E P Q : Type 0} (r : Result A E) → (P → Q) → OnOk r P → OnOk r Q
on_ok (Ok x) f p = f p
on_ok (Err e) f p = tt

pub on_err : {A E P Q : Type 0} (r : Result A E) → (P → Q) → OnErr r P → OnErr r Q
on_err (Ok x) f p = tt
on_err (Err e) f p = f p
