-- The blocks that have the rows which a key names.
use Rattle.std.proofs.Common.{◌≡◌, ℕ, zero, suc, ◌+◌, ◌-◌, ◌<◌, ◌≤◌, Bool, true, false, cond, not, T, List, [], ◌∷◌, ◌++◌, drop, length, take, slice_index_or as get_or, slice_range, refl, sym, ap, subst, ◌∙◌, arith, append_assoc}
use Rattle.std.specs.List.{filter, list_all}
use Rattle.std.specs.List.Sorted.{IsPartitionPoint}
use Rattle.std.specs.Ordering.{is_eq, is_le, is_lt, ordering_index}
use Rattle.std.specs.declared.cmp.Ordering.{Ordering}
use Rattle.std.specs.declared.cmp.Ordering.TheVariants.{Less, Equal, Greater}
use Rattle.std.proofs.Math.Seq.{drop-nil}
use Rattle.std.proofs.lemmas.List.{append-nil, drop_all, take-append-drop}
use Rattle.std.proofs.lemmas.List.Elements.{filter-append}
use Rattle.std.proofs.lemmas.Grind.{flat_map-append}
use Rattle.ent_values.specs.declared.value.Value.{Value}
use Rattle.ent_finder.proofs.BlockRows.{Follows, before_block, follows_from, from_block, opened, order_of_head, sorted_in_back, sorted_in_front}
use Rattle.ent_finder.proofs.Gathered.{named_rows, values_in, values_of-rows}
use Rattle.ent_finder.proofs.RowKeys.{row_tied, rows_rise}
use Rattle.ent_finder.proofs.Sorted.{element, first, second}
use Rattle.ent_finder.specs.Blocks.{rows_in}
use Rattle.ent_finder.specs.proofs_only.Blocks.{first_cmp}
use Rattle.ent_finder.specs.Looking.{names_row, values_of}
use Rattle.ent_finder.specs.proofs_only.Order.{named_cmp}
use Rattle.ent_finder.specs.RowEntry.{RowsAreSorted, rows_of}
use Rattle.ent_finder.specs.Rows.{filled}
use Rattle.ent_finder.specs.declared.block.Block.{Block}
use Rattle.ent_finder.specs.declared.row.AttrKey.{AttrKey}
use Rattle.ent_finder.specs.declared.row.Row.{Row}

-- how a row stands to what the key names
abbrev pub to_named : AttrKey → Row → Ordering
to_named k r = named_cmp r.key k

pub to_named_follows : (k : AttrKey) → Follows (to_named k)
to_named_follows k = follows_from (to_named k) (λ rs s. rows_rise rs k s)

pub lt_down : (a b : Ordering) → ordering_index a ≤ ordering_index b → is_lt b ≡ true → is_lt a ≡ true
lt_down Less b le h = refl
lt_down Equal Less le h = absurd (omega arith)
lt_down Equal Equal le h = cc
lt_down Equal Greater le h = cc
lt_down Greater Less le h = absurd (omega arith)
lt_down Greater Equal le h = cc
lt_down Greater Greater le h = cc

pub past_up : (a b : Ordering) → ordering_index a ≤ ordering_index b → not (is_le a) ≡ true → not (is_le b) ≡ true
past_up Less b le h = cc
past_up Equal b le h = cc
past_up Greater Less le h = absurd (omega arith)
past_up Greater Equal le h = absurd (omega arith)
past_up Greater Greater le h = refl

none_kept : {X : Type 0} (p q : X → Bool) (xs : List X) → ((x : X) → T (q x) → p x ≡ false) → T (list_all q xs) → filter p xs ≡ []
none_kept p q [] fails t = refl
none_kept p q (x ∷ xs) fails t = ap (λ b. cond b (x ∷ filter p xs) (filter p xs)) (fails x (first (q x) (list_all q xs) t)) ∙ none_kept p q xs fails (second (q x) (list_all q xs) t)

not_lt : (r : Ordering) → T (is_lt r) → is_eq r ≡ false
not_lt Less t = refl
not_lt Equal t = absurd t
not_lt Greater t = refl

not_gt : (r : Ordering) → T (not (is_le r)) → is_eq r ≡ false
not_gt Less t = refl
not_gt Equal t = absurd t
not_gt Greater t = refl

drop_further : {X : Type 0} (a m n : ℕ) (xs : List X) → a + m ≡ n → drop m (drop a xs) ≡ drop n xs
drop_further zero m n xs e = ap (λ i. drop i xs) (let is : m ≡ n = omega arith in is)
drop_further (suc a) m n [] e = drop-nil m ∙ sym (drop-nil n)
drop_further (suc a) m zero (x ∷ xs) e = absurd (omega arith)
drop_further (suc a) m (suc n) (x ∷ xs) e = drop_further a m n xs (omega arith)

split_at : (n : ℕ) (bs : List Block) → rows_in bs ≡ rows_in (take n bs) ++ rows_in (drop n bs)
split_at n bs = ap rows_in (sym (take-append-drop n bs)) ∙ flat_map-append (λ (b : Block). b.rows.items) (take n bs) (drop n bs)

module _ (k : AttrKey) where
  abbrev named : List Row → List Row
  named = filter (λ r. names_row k r.key)

  without_front : (n : ℕ) (bs : List Block) → T (list_all (λ r. is_lt (to_named k r)) (rows_in (take n bs))) → named (rows_in (drop n bs)) ≡ named (rows_in bs)
  without_front n bs t =
      sym (ap named (split_at n bs) ∙ filter-append (λ r. names_row k r.key) (rows_in (take n bs)) (rows_in (drop n bs))
      ∙ ap (λ rs. rs ++ named (rows_in (drop n bs))) (none_kept (λ r. names_row k r.key) (λ r. is_lt (to_named k r)) (rows_in (take n bs)) (λ r h. sym (row_tied k r.key) ∙ not_lt (to_named k r) h) t))

  without_back : (n : ℕ) (bs : List Block) → T (list_all (λ r. not (is_le (to_named k r))) (rows_in (drop n bs))) → named (rows_in (take n bs)) ≡ named (rows_in bs)
  without_back n bs t =
      sym (ap named (split_at n bs) ∙ filter-append (λ r. names_row k r.key) (rows_in (take n bs)) (rows_in (drop n bs))
      ∙ ap (λ rs. named (rows_in (take n bs)) ++ rs) (none_kept (λ r. names_row k r.key) (λ r. not (is_le (to_named k r))) (rows_in (drop n bs)) (λ r h. sym (row_tied k r.key) ∙ not_gt (to_named k r) h) t)
      ∙ append-nil (named (rows_in (take n bs))))

  module _ (bs : List Block) (s : RowsAreSorted (rows_in bs)) where
    abbrev order : Block → Ordering
    order b = first_cmp (to_named k) b.rows.items

    in_front : (p : ℕ) → p ≤ length bs → ((j : ℕ) (d : Block) → 0 ≤ j → j < p → is_lt (order (get_or bs j d)) ≡ true) → T (list_all (λ r. is_lt (to_named k r)) (rows_in (take (p - 1) bs)))
    in_front zero le h = tt
    in_front (suc n) le h =
        let lt : n < length bs = omega arith in
        let d = (element bs n lt).0 in
        let it = before_block (λ r. is_lt (to_named k r)) (λ r. is_lt (to_named k r)) (λ x y before. lt_down (to_named k x) (to_named k y) (to_named_follows k x y before)) bs n d s lt
        (sym (ap is_lt (order_of_head (to_named k) (get_or bs n d))) ∙ h n d (omega arith) (omega arith)) in
        let is : n ≡ suc n - 1 = omega arith in
        subst (λ m. T (list_all (λ r. is_lt (to_named k r)) (rows_in (take m bs)))) is it

    behind : (e : ℕ) → ((j : ℕ) (d : Block) → e ≤ j → j < length bs → is_le (order (get_or bs j d)) ≡ false) → T (list_all (λ r. not (is_le (to_named k r))) (rows_in (drop e bs)))
    behind e h =
        from_block (λ r. not (is_le (to_named k r))) (λ r. not (is_le (to_named k r))) (λ x p. p) (λ x y before. past_up (to_named k x) (to_named k y) (to_named_follows k x y before)) bs e s
        (λ j d le lt. ap not (sym (ap is_le (order_of_head (to_named k) (get_or bs j d))) ∙ h j d le lt))

    pub named_between : (p e : ℕ) → p ≤ length bs → p ≤ e → IsPartitionPoint (λ b. is_lt (order b) ≡ true) (λ b. is_lt (order b) ≡ false) bs p
        → IsPartitionPoint (λ b. is_le (order b) ≡ true) (λ b. is_le (order b) ≡ false) bs e → named (rows_in (slice_range bs (p - 1) e)) ≡ named (rows_in bs)
    named_between p e le low starts ends =
        let a = p - 1 in
        let more : a + (e - a) ≡ e = omega arith in
        without_back (e - a) (drop a bs)
        (subst (λ cs. T (list_all (λ r. not (is_le (to_named k r))) (rows_in cs))) (sym (drop_further a (e - a) e bs more)) (behind e ends.1))
        ∙ without_front a bs (in_front p le starts.0)

-- ---- a part of the blocks

pub sorted_range : (bs : List Block) (a e : ℕ) → RowsAreSorted (rows_in bs) → RowsAreSorted (rows_in (slice_range bs a e))
sorted_range bs a e s =
    let cs = drop a bs in
    let rest = sorted_in_back (rows_in (take a bs)) (rows_in cs) (subst RowsAreSorted (split_at a bs) s) in
    sorted_in_front (rows_in (take (e - a) cs)) (rows_in (drop (e - a) cs)) (subst RowsAreSorted (split_at (e - a) cs) rest)

abbrev pub values_left : AttrKey → List Block → ℕ → List Value
values_left k bs i = values_in (named_rows k (rows_in (drop i bs)))

pub more_values : (k : AttrKey) (bs : List Block) (i : ℕ) (b : Block) (vs : List Value) → i < length bs → b ≡ get_or bs i b → RowsAreSorted b.rows.items
    → (vs ++ values_of k (filled (rows_of b.rows.items))) ++ values_left k bs (i + 1) ≡ vs ++ values_left k bs i
more_values k bs i b vs lt is s =
    let front = named_rows k b.rows.items in
    let back = named_rows k (rows_in (drop (i + 1) bs)) in
    append_assoc vs (values_of k (filled (rows_of b.rows.items))) (values_in back)
    ∙ ap (λ ws. vs ++ (ws ++ values_in back)) (values_of-rows k b.rows.items s)
    ∙ ap (λ ws. vs ++ ws) (sym (flat_map-append (λ (r : Row). r.values) front back) ∙ ap values_in (sym (filter-append (λ r. names_row k r.key) b.rows.items (rows_in (drop (i + 1) bs))) ∙ ap (named_rows k) (sym (opened bs i b lt is))))

pub no_more_values : (k : AttrKey) (bs : List Block) (i : ℕ) (vs : List Value) → length bs ≤ i → vs ++ values_left k bs i ≡ vs
no_more_values k bs i vs h = ap (λ cs. vs ++ values_in (named_rows k (rows_in cs))) (drop_all i bs h) ∙ append-nil vs
