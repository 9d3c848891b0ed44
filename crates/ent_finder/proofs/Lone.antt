-- A row that a key names, between two others that it doesn't name, is the only one.
use Rattle.std.proofs.Common.{◌≡◌, ℕ, zero, suc, ◌+◌, ◌<◌, ◌≤◌, Bool, true, false, cond, not, List, [], ◌∷◌, ◌++◌, Some, drop, length, take, slice_get, slice_index_or as get_or, refl, sym, ap, subst, ◌∙◌, arith}
use Rattle.std.specs.List.{AllWithin, filter}
use Rattle.std.specs.Ordering.{is_eq, is_gt, is_le, is_lt, ordering_index}
use Rattle.std.specs.declared.cmp.Ordering.{Ordering}
use Rattle.std.specs.declared.cmp.Ordering.TheVariants.{Less, Equal, Greater}
use Rattle.std.proofs.lemmas.List.{drop_more, take-append-drop}
use Rattle.std.proofs.lemmas.List.Elements.{filter-append}
use Rattle.std.proofs.lemmas.Option.{get_or_from_slice_get, slice_get_within}
use Rattle.ent_finder.proofs.Behind.{none_from}
use Rattle.ent_finder.proofs.BlockRows.{around, got_back, got_front}
use Rattle.ent_finder.proofs.NamedBlocks.{lt_down, past_up, to_named}
use Rattle.ent_finder.proofs.RowKeys.{row_tied, rows_rise}
use Rattle.ent_finder.specs.Blocks.{rows_in}
use Rattle.ent_finder.specs.Looking.{names_row}
use Rattle.ent_finder.specs.RowEntry.{RowsAreSorted}
use Rattle.ent_finder.specs.declared.block.Block.{Block}
use Rattle.ent_finder.specs.declared.row.AttrKey.{AttrKey}
use Rattle.ent_finder.specs.declared.row.Row.{Row}

-- where all elements up to a place fail a test, none of them passes it
none_upto : {X : Type 0} (q : X → Bool) (xs : List X) (n : ℕ) → AllWithin (λ y. q y ≡ false) xs 0 n → n ≤ length xs → filter q (take n xs) ≡ []
none_upto q [] zero h le = refl
none_upto q [] (suc n) h le = refl
none_upto q (x ∷ xs) zero h le = refl
none_upto q (x ∷ xs) (suc n) h le = by (q x) (h 0 x (omega arith) (omega arith)) (none_upto q xs n (λ k d lo hi. h (suc k) d (omega arith) (omega arith)) (omega arith))
  where
    by : (b : Bool) → b ≡ false → filter q (take n xs) ≡ [] → cond b (x ∷ filter q (take n xs)) (filter q (take n xs)) ≡ []
    by true h e = cc
    by false h e = e

not_less : (o : Ordering) → is_lt o ≡ true → is_eq o ≡ false
not_less Less h = refl
not_less Equal h = cc
not_less Greater h = cc

not_greater : (o : Ordering) → not (is_le o) ≡ true → is_eq o ≡ false
not_greater Less h = cc
not_greater Equal h = cc
not_greater Greater h = refl

past : (o : Ordering) → is_gt o ≡ true → not (is_le o) ≡ true
past Less h = cc
past Equal h = cc
past Greater h = refl

before_tied : (a b : Ordering) → ordering_index a ≤ ordering_index b → is_eq b ≡ true → is_eq a ≡ false → is_lt a ≡ true
before_tied Less b le tied unlike = refl
before_tied Equal b le tied unlike = cc
before_tied Greater Less le tied unlike = cc
before_tied Greater Equal le tied unlike = absurd (omega arith)
before_tied Greater Greater le tied unlike = cc

behind_tied : (a b : Ordering) → ordering_index a ≤ ordering_index b → is_eq a ≡ true → is_eq b ≡ false → is_gt b ≡ true
behind_tied a Greater le tied unlike = refl
behind_tied a Equal le tied unlike = cc
behind_tied Less Less le tied unlike = cc
behind_tied Equal Less le tied unlike = absurd (omega arith)
behind_tied Greater Less le tied unlike = cc

module _ (k : AttrKey) where
  abbrev named : Row → Bool
  named r = names_row k r.key

  -- of two rows the later doesn't stand before what the key names where the earlier doesn't
  rises : (rs : List Row) (sorted : RowsAreSorted rs) (n m : ℕ) → n ≤ m → (p r : Row) → slice_get rs n ≡ Some p → slice_get rs m ≡ Some r → ordering_index (to_named k p) ≤ ordering_index (to_named k r)
  rises rs sorted n m le p r before here =
      subst (λ x. ordering_index (to_named k x) ≤ ordering_index (to_named k r)) (get_or_from_slice_get rs n p r before)
      (subst (λ x. ordering_index (to_named k (get_or rs n r)) ≤ ordering_index (to_named k x)) (get_or_from_slice_get rs m r r here)
      (rows_rise rs k sorted n m r le (slice_get_within rs m r here)))

  module _ (rs : List Row) (sorted : RowsAreSorted rs) (n m l : ℕ) (next : n + 1 ≡ m) (last : m + 1 ≡ l) (p r q : Row)
      (before : slice_get rs n ≡ Some p) (here : slice_get rs m ≡ Some r) (after : slice_get rs l ≡ Some q) (less : is_lt (to_named k p) ≡ true) (tied : is_eq (to_named k r) ≡ true) (greater : is_gt (to_named k q) ≡ true) where
    front : AllWithin (λ x. named x ≡ false) rs 0 m
    front j d lo hi =
        let at : is_lt (to_named k (get_or rs n d)) ≡ true = ap (λ x. is_lt (to_named k x)) (get_or_from_slice_get rs n p d before) ∙ less in
        sym (row_tied k (get_or rs j d).key) ∙ not_less _ (lt_down _ _ (rows_rise rs k sorted j n d (omega arith) (slice_get_within rs n p before)) at)

    back : AllWithin (λ x. named x ≡ false) rs (m + 1) (length rs)
    back j d lo hi =
        let at : not (is_le (to_named k (get_or rs l d))) ≡ true = ap (λ x. not (is_le (to_named k x))) (get_or_from_slice_get rs l q d after) ∙ past _ greater in
        sym (row_tied k (get_or rs j d).key) ∙ not_greater _ (past_up _ _ (rows_rise rs k sorted l j d (omega arith) hi) at)

    parts : rs ≡ take m rs ++ r ∷ drop (m + 1) rs
    parts =
        sym (take-append-drop m rs)
        ∙ ap (λ xs. take m rs ++ xs) (drop_more rs m r (slice_get_within rs m r here) ∙ ap (λ x. x ∷ drop (m + 1) rs) (get_or_from_slice_get rs m r r here))

    alone : filter named (r ∷ drop (m + 1) rs) ≡ r ∷ []
    alone =
        ap (λ b. cond b (r ∷ filter named (drop (m + 1) rs)) (filter named (drop (m + 1) rs))) (sym (row_tied k r.key) ∙ tied)
        ∙ ap (λ xs. r ∷ xs) (none_from named rs (m + 1) back)

    pub only : filter named rs ≡ r ∷ []
    only =
        let within : m ≤ length rs = let lt = slice_get_within rs m r here in omega arith in
        ap (filter named) parts ∙ filter-append named (take m rs) (r ∷ drop (m + 1) rs)
        ∙ ap (λ xs. xs ++ filter named (r ∷ drop (m + 1) rs)) (none_upto named rs m front within) ∙ alone

  -- the same where they are found in one block
  module _ (bs : List Block) (sorted : RowsAreSorted (rows_in bs)) (number : ℕ) (b : Block) (lt : number < length bs) (is : b ≡ get_or bs number b) where
    abbrev so_far : ℕ
    so_far = length (rows_in (take number bs))

    there : (i : ℕ) (x : Row) → slice_get b.rows.items i ≡ Some x → slice_get (rows_in bs) (so_far + i) ≡ Some x
    there i x h =
        let rows = b.rows.items in
        let behind = rows_in (drop (suc number) bs) in
        ap (λ rs. slice_get rs (so_far + i)) (around bs number b lt is) ∙ got_back (rows_in (take number bs)) (rows ++ behind) (so_far + i) i refl
        ∙ got_front rows behind i (slice_get_within rows i x h) ∙ h

    only_in : (n m l : ℕ) (p r q : Row) → n + 1 ≡ m → m + 1 ≡ l → slice_get b.rows.items n ≡ Some p → slice_get b.rows.items m ≡ Some r → slice_get b.rows.items l ≡ Some q
        → is_lt (to_named k p) ≡ true → is_eq (to_named k r) ≡ true → is_gt (to_named k q) ≡ true → filter named (rows_in bs) ≡ r ∷ []
    only_in n m l p r q next last before here after less tied greater =
        only (rows_in bs) sorted (so_far + n) (so_far + m) (so_far + l) (omega (arith, next)) (omega (arith, last)) p r q (there n p before) (there m r here) (there l q after) less tied greater

    -- the same where the key doesn't name the two beside it
    pub only_named : (n m l : ℕ) (p r q : Row) → n + 1 ≡ m → m + 1 ≡ l → slice_get b.rows.items n ≡ Some p → slice_get b.rows.items m ≡ Some r → slice_get b.rows.items l ≡ Some q
        → named p ≡ false → named r ≡ true → named q ≡ false → filter named (rows_in bs) ≡ r ∷ []
    only_named n m l p r q next last before here after unlike tied other =
        let eq : is_eq (to_named k r) ≡ true = row_tied k r.key ∙ tied in
        let less : is_lt (to_named k p) ≡ true =
        before_tied _ _ (rises (rows_in bs) sorted (so_far + n) (so_far + m) (omega (arith, next)) p r (there n p before) (there m r here)) eq (row_tied k p.key ∙ unlike) in
        let greater : is_gt (to_named k q) ≡ true =
        behind_tied _ _ (rises (rows_in bs) sorted (so_far + m) (so_far + l) (omega (arith, last)) r q (there m r here) (there l q after)) eq (row_tied k q.key ∙ other) in
        only_in n m l p r q next last before here after less eq greater
