-- The rows of blocks that follow one another: what is so of the first row of a block is so of the rows in front or behind.
use Rattle.std.proofs.Common.{◌≡◌, ℕ, zero, suc, ◌+◌, ◌-◌, ◌<◌, ◌≤◌, Bool, true, false, ◌&&◌, T, List, [], ◌∷◌, ◌++◌, drop, length, take, slice_get, slice_index_or as get_or, slice_set as set, refl, sym, ap, subst, ◌∙◌, arith, append_assoc}
use Rattle.std.specs.FinMap.{is_sorted}
use Rattle.std.specs.FinMap.Entries.{below_all}
use Rattle.std.specs.List.{insert, list_all}
use Rattle.std.specs.Ordering.{is_lt, ordering_index}
use Rattle.std.specs.declared.cmp.Ordering.{Ordering}
use Rattle.std.specs.declared.cmp.Ordering.TheVariants.{Less}
use Rattle.std.proofs.lemmas.List.{drop_more, map-append, take-append-drop}
use Rattle.std.proofs.lemmas.List.Folds.{list_all-append}
use Rattle.ent_finder.proofs.Parts.{below_back, below_front, sorted_back, sorted_front}
use Rattle.ent_finder.proofs.Ranges.{Rises}
use Rattle.ent_finder.proofs.Sorted.{both, first, is_true, less, second}
use Rattle.ent_finder.specs.Blocks.{rows_in}
use Rattle.ent_finder.specs.proofs_only.Blocks.{first_cmp}
use Rattle.ent_finder.specs.RowEntry.{RowsAreSorted, row_entries, row_entry}
use Rattle.ent_finder.specs.Rows.{row_cmp}
use Rattle.ent_finder.specs.declared.block.Block.{Block}
use Rattle.ent_finder.specs.declared.row.Row.{Row}
use Rattle.ent_finder.specs.declared.row.RowKey.{RowKey}

-- ---- parts of a list of rows

abbrev pub IsBelow : RowKey → List Row → Type 0
IsBelow k rs = T (below_all row_cmp k (row_entries rs))

pub below_in_front : (k : RowKey) (xs ys : List Row) → IsBelow k (xs ++ ys) → IsBelow k xs
below_in_front k xs ys t = below_front row_cmp k (row_entries xs) (row_entries ys) (subst (λ es. T (below_all row_cmp k es)) (map-append row_entry xs ys) t)

pub below_in_back : (k : RowKey) (xs ys : List Row) → IsBelow k (xs ++ ys) → IsBelow k ys
below_in_back k xs ys t = below_back row_cmp k (row_entries xs) (row_entries ys) (subst (λ es. T (below_all row_cmp k es)) (map-append row_entry xs ys) t)

pub sorted_in_front : (xs ys : List Row) → RowsAreSorted (xs ++ ys) → RowsAreSorted xs
sorted_in_front xs ys t = sorted_front row_cmp (row_entries xs) (row_entries ys) (subst (λ es. T (is_sorted row_cmp es)) (map-append row_entry xs ys) t)

pub sorted_in_back : (xs ys : List Row) → RowsAreSorted (xs ++ ys) → RowsAreSorted ys
sorted_in_back xs ys t = sorted_back row_cmp (row_entries xs) (row_entries ys) (subst (λ es. T (is_sorted row_cmp es)) (map-append row_entry xs ys) t)

pub below_first : (x : Row) (rs : List Row) → RowsAreSorted (x ∷ rs) → IsBelow x.key rs
below_first x rs t = first (below_all row_cmp x.key (row_entries rs)) (is_sorted row_cmp (row_entries rs)) t

pub sorted_rest : (x : Row) (rs : List Row) → RowsAreSorted (x ∷ rs) → RowsAreSorted rs
sorted_rest x rs t = second (below_all row_cmp x.key (row_entries rs)) (is_sorted row_cmp (row_entries rs)) t

next_below : (k : RowKey) (r : Row) (rs : List Row) → IsBelow k (r ∷ rs) → row_cmp k r.key ≡ Less
next_below k r rs t = less _ (is_true _ (first (is_lt (row_cmp k r.key)) (below_all row_cmp k (row_entries rs)) t))

rest_below : (k : RowKey) (r : Row) (rs : List Row) → IsBelow k (r ∷ rs) → IsBelow k rs
rest_below k r rs t = second (is_lt (row_cmp k r.key)) (below_all row_cmp k (row_entries rs)) t

holds : (b : Bool) → b ≡ true → T b
holds true h = tt
holds false h = cc

-- ---- the first row of a block

pub record Head (rs : List Row) : Type 0 where
  pub row : Row
  pub rest : List Row
  pub is : rs ≡ row ∷ rest

first_of : (rs : List Row) → 0 < length rs → Head rs
first_of [] h = absurd (omega arith)
first_of (r ∷ rs) h = record { row = r; rest = rs; is = refl }

pub head : (b : Block) → Head b.rows.items
head b = first_of b.rows.items b.filled

pub order_of_head : (f : Row → Ordering) (b : Block) → first_cmp f b.rows.items ≡ f (head b).row
order_of_head f b = ap (first_cmp f) (head b).is

below_head : (k : RowKey) (bs : List Block) (n : ℕ) (d : Block) → IsBelow k (rows_in bs) → n < length bs → row_cmp k (head (get_or bs n d)).row.key ≡ Less
below_head k [] n d t lt = absurd (omega arith)
below_head k (b ∷ bs) zero d t lt =
    let h = head b in
    next_below k h.row h.rest (subst (IsBelow k) h.is (below_in_front k b.rows.items (rows_in bs) t))
below_head k (b ∷ bs) (suc n) d t lt = below_head k bs n d (below_in_back k b.rows.items (rows_in bs) t) (omega arith)

-- the first row of a block comes before those of the blocks behind
head_below : (b : Block) (bs : List Block) → RowsAreSorted (rows_in (b ∷ bs)) → IsBelow (head b).row.key (rows_in bs)
head_below b bs s =
    let h = head b in
    below_in_back h.row.key h.rest (rows_in bs) (below_first h.row (h.rest ++ rows_in bs) (subst (λ rs. RowsAreSorted (rs ++ rows_in bs)) h.is s))

-- ---- the first rows rise

-- what follows the order of rows
abbrev pub Follows : (Row → Ordering) → Type 0
Follows f = (x y : Row) → row_cmp x.key y.key ≡ Less → ordering_index (f x) ≤ ordering_index (f y)

pub follows_from : (f : Row → Ordering) → ((rs : List Row) → RowsAreSorted rs → Rises f rs) → Follows f
follows_from f rise x y less =
    let sorted : RowsAreSorted (x ∷ y ∷ []) = subst (λ r. T ((is_lt r && true) && true)) (sym less) tt in
    rise (x ∷ y ∷ []) sorted 0 1 x (omega arith) (omega arith)

pub first_rises : (f : Row → Ordering) → Follows f → (bs : List Block) → RowsAreSorted (rows_in bs) → Rises (λ b. first_cmp f b.rows.items) bs
first_rises f follows [] s i j d le lt = absurd (omega arith)
first_rises f follows (b ∷ bs) s zero zero d le lt = omega arith
first_rises f follows (b ∷ bs) s zero (suc j) d le lt =
    let c = get_or bs j d in
    let step = follows (head b).row (head c).row (below_head (head b).row.key bs j d (head_below b bs s) (omega arith)) in
    subst (λ o. ordering_index o ≤ ordering_index (first_cmp f c.rows.items)) (sym (order_of_head f b)) (subst (λ o. ordering_index (f (head b).row) ≤ ordering_index o) (sym (order_of_head f c)) step)
first_rises f follows (b ∷ bs) s (suc i) zero d le lt = absurd (omega arith)
first_rises f follows (b ∷ bs) s (suc i) (suc j) d le lt = first_rises f follows bs (sorted_in_back b.rows.items (rows_in bs) s) i j d (omega arith) (omega arith)

-- ---- the rows in front of a block, and those from one on

module _ (t u : Row → Bool) (step : (x y : Row) → row_cmp x.key y.key ≡ Less → u y ≡ true → t x ≡ true) where
  each_before : (xs : List Row) (bs : List Block) (n : ℕ) (d : Block) → RowsAreSorted (xs ++ rows_in bs) → n < length bs → u (head (get_or bs n d)).row ≡ true → T (list_all t xs)
  each_before [] bs n d s lt h = tt
  each_before (x ∷ xs) bs n d s lt h =
      let here = step x (head (get_or bs n d)).row (below_head x.key bs n d (below_in_back x.key xs (rows_in bs) (below_first x (xs ++ rows_in bs) s)) lt) h in
      both (t x) (list_all t xs) (holds (t x) here) (each_before xs bs n d (sorted_rest x (xs ++ rows_in bs) s) lt h)

  pub before_block : (bs : List Block) (n : ℕ) (d : Block) → RowsAreSorted (rows_in bs) → n < length bs → u (head (get_or bs n d)).row ≡ true → T (list_all t (rows_in (take n bs)))
  before_block [] n d s lt h = absurd (omega arith)
  before_block (b ∷ bs) zero d s lt h = tt
  before_block (b ∷ bs) (suc n) d s lt h =
      let rows = b.rows.items in
      subst T (sym (list_all-append t rows (rows_in (take n bs))))
      (both (list_all t rows) (list_all t (rows_in (take n bs))) (each_before rows bs n d s (omega arith) h) (before_block bs n d (sorted_in_back rows (rows_in bs) s) (omega arith) h))

module _ (t u : Row → Bool) (here : (x : Row) → u x ≡ true → t x ≡ true) (step : (x y : Row) → row_cmp x.key y.key ≡ Less → u x ≡ true → t y ≡ true) where
  each_after : (x : Row) (rs : List Row) → IsBelow x.key rs → u x ≡ true → T (list_all t rs)
  each_after x [] s h = tt
  each_after x (r ∷ rs) s h = both (t r) (list_all t rs) (holds (t r) (step x r (next_below x.key r rs s) h)) (each_after x rs (rest_below x.key r rs s) h)

  pub from_block : (bs : List Block) (n : ℕ) → RowsAreSorted (rows_in bs) → ((j : ℕ) (d : Block) → n ≤ j → j < length bs → u (head (get_or bs j d)).row ≡ true) → T (list_all t (rows_in (drop n bs)))
  from_block [] zero s h = tt
  from_block [] (suc n) s h = tt
  from_block (b ∷ bs) zero s h =
      let g = head b in
      let now = h 0 b (omega arith) (omega arith) in
      let rest = g.rest ++ rows_in bs in
      subst (λ rs. T (list_all t (rs ++ rows_in bs))) (sym g.is)
      (both (t g.row) (list_all t rest) (holds (t g.row) (here g.row now)) (each_after g.row rest (below_first g.row rest (subst (λ rs. RowsAreSorted (rs ++ rows_in bs)) g.is s)) now))
  from_block (b ∷ bs) (suc n) s h = from_block bs n (sorted_in_back b.rows.items (rows_in bs) s) (λ j d le lt. h (suc j) d (omega arith) (omega arith))

-- ---- a block among the others

pub around : (bs : List Block) (n : ℕ) (b : Block) → n < length bs → b ≡ get_or bs n b → rows_in bs ≡ rows_in (take n bs) ++ (b.rows.items ++ rows_in (drop (suc n) bs))
around [] n b lt is = absurd (omega arith)
around (c ∷ bs) zero b lt is = ap (λ (x : Block). x.rows.items ++ rows_in bs) (sym is)
around (c ∷ bs) (suc n) b lt is =
    ap (λ rs. c.rows.items ++ rs) (around bs n b (omega arith) is) ∙ sym (append_assoc c.rows.items (rows_in (take n bs)) (b.rows.items ++ rows_in (drop (suc n) bs)))

pub around_set : (bs : List Block) (n : ℕ) (b : Block) → n < length bs → rows_in (set bs n b) ≡ rows_in (take n bs) ++ (b.rows.items ++ rows_in (drop (suc n) bs))
around_set [] n b lt = absurd (omega arith)
around_set (c ∷ bs) zero b lt = refl
around_set (c ∷ bs) (suc n) b lt =
    ap (λ rs. c.rows.items ++ rs) (around_set bs n b (omega arith)) ∙ sym (append_assoc c.rows.items (rows_in (take n bs)) (b.rows.items ++ rows_in (drop (suc n) bs)))

-- each block is in order
pub sorted_block : (bs : List Block) (n : ℕ) (b : Block) → n < length bs → b ≡ get_or bs n b → RowsAreSorted (rows_in bs) → RowsAreSorted b.rows.items
sorted_block bs n b lt is s =
    let front = rows_in (take n bs) in
    let back = rows_in (drop (suc n) bs) in
    sorted_in_front b.rows.items back (sorted_in_back front (b.rows.items ++ back) (subst RowsAreSorted (around bs n b lt is) s))

-- ---- a block in two halves

module _ (h : ℕ) (one two : Block) where
  halved_next : (bs : List Block) (n : ℕ) (b : Block) → n < length bs → b ≡ get_or bs n b → one.rows.items ≡ take h b.rows.items → two.rows.items ≡ drop h b.rows.items → rows_in (insert (set bs n one) (suc n) two) ≡ rows_in bs
  halved_next [] n b lt is front back = absurd (omega arith)
  halved_next (c ∷ bs) zero b lt is front back =
      (λ t. front t ++ (back t ++ rows_in bs)) ∙ sym (append_assoc (take h b.rows.items) (drop h b.rows.items) (rows_in bs))
      ∙ ap (λ rs. rs ++ rows_in bs) (take-append-drop h b.rows.items) ∙ ap (λ (x : Block). x.rows.items ++ rows_in bs) is
  halved_next (c ∷ bs) (suc n) b lt is front back = ap (λ rs. c.rows.items ++ rs) (halved_next bs n b (omega arith) is front back)

  pub halved : (bs : List Block) (n : ℕ) (b : Block) → n < length bs → b ≡ get_or bs n b → one.rows.items ≡ take h b.rows.items → two.rows.items ≡ drop h b.rows.items → rows_in (insert (set bs n one) (n + 1) two) ≡ rows_in bs
  halved bs n b lt is front back =
      let next : n + 1 ≡ suc n = omega arith in
      ap (λ m. rows_in (insert (set bs n one) m two)) next ∙ halved_next bs n b lt is front back

-- one that is as before
pub set_alike : (bs : List Block) (n : ℕ) (b c : Block) → n < length bs → b ≡ get_or bs n b → c.rows.items ≡ b.rows.items → rows_in (set bs n c) ≡ rows_in bs
set_alike bs n b c lt is same =
    around_set bs n c lt ∙ ap (λ rs. rows_in (take n bs) ++ (rs ++ rows_in (drop (suc n) bs))) same ∙ sym (around bs n b lt is)

-- ---- what stands at an index

pub got_front : {A : Type 0} (xs ys : List A) (i : ℕ) → i < length xs → slice_get (xs ++ ys) i ≡ slice_get xs i
got_front [] ys i lt = absurd (omega arith)
got_front (x ∷ xs) ys zero lt = refl
got_front (x ∷ xs) ys (suc i) lt = got_front xs ys i (omega arith)

pub got_back : {A : Type 0} (xs ys : List A) (i j : ℕ) → length xs + j ≡ i → slice_get (xs ++ ys) i ≡ slice_get ys j
got_back [] ys i j e = ap (slice_get ys) (let is : i ≡ j = omega arith in is)
got_back (x ∷ xs) ys zero j e = absurd (omega arith)
got_back (x ∷ xs) ys (suc i) j e = got_back xs ys i j (omega arith)

module _ (bs : List Block) (n : ℕ) (b : Block) (lt : n < length bs) (is : b ≡ get_or bs n b) where
  pub opened : rows_in (drop n bs) ≡ b.rows.items ++ rows_in (drop (n + 1) bs)
  opened = ap rows_in (drop_more bs n b lt) ∙ ap (λ (x : Block). x.rows.items ++ rows_in (drop (n + 1) bs)) (sym is)

  pub row_here : (i : ℕ) → i < length b.rows.items → slice_get (rows_in (drop n bs)) i ≡ slice_get b.rows.items i
  row_here i within = ap (λ rs. slice_get rs i) opened ∙ got_front b.rows.items (rows_in (drop (n + 1) bs)) i within

  pub row_further : (i : ℕ) → length b.rows.items ≤ i → slice_get (rows_in (drop (n + 1) bs)) (i - length b.rows.items) ≡ slice_get (rows_in (drop n bs)) i
  row_further i past = sym (ap (λ rs. slice_get rs i) opened ∙ got_back b.rows.items (rows_in (drop (n + 1) bs)) i (i - length b.rows.items) (omega arith))
