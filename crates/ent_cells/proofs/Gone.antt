-- Cells that are dropped, and their answers as old ones.
use Rattle.std.proofs.Common.{◌≡◌, ℕ, zero, suc, ◌+◌, Bool, true, false, ◌||◌, List, [], ◌∷◌, ◌++◌, map, length, take, drop, Option, Some, None, option_map, refl, sym, ap, subst, ◌∙◌, arith}
use Rattle.std.specs.List.{AllByRecursion, cons_option, list_any}
use Rattle.std.specs.Ordering.{is_eq}
use Rattle.std.proofs.lemmas.List.{length-append, length-map, map-append, take-map, drop-map, take-append-drop}
use Rattle.std.proofs.lemmas.List.Elements.{All-from_recursion}
use Rattle.std.proofs.lemmas.List.Folds.{list_any-append}
use Rattle.slab.specs.Slab.{Slab, get}
use Rattle.ent_request.specs.declared.answer.Answer.{Answer}
use Rattle.ent_log.proofs.Before.{undoes-listed}
use Rattle.ent_eval.specs.declared.who.Who.{Who}
use Rattle.ent_cells.specs.Cell.{Kept}
use Rattle.ent_cells.specs.Entries.{Entry, kept_of}
use Rattle.ent_cells.specs.Grid.{IsGrid, entries_of, values}
use Rattle.ent_cells.specs.proofs_only.Logging.{gone_in, old_of}
use Rattle.ent_cells.specs.Old.{AreOld}
use Rattle.ent_cells.specs.Order.{request_order}
use Rattle.ent_cells.specs.Shape.{taken_out, without}
use Rattle.ent_cells.proofs.Grids.{AllThere, all_there, filled, filled_inside, grid_shown, grid_within, shown, slot}
use Rattle.ent_cells.proofs.Listed.{kept_cons}
use Rattle.ent_cells.proofs.Narrowed.{times_parts}
use Rattle.ent_cells.proofs.Orders.{requests-respected, same_request}
use Rattle.ent_cells.proofs.Shapes.{halves}

-- ---- parts of a list in blocks

pub taken_out-map : {A B : Type 0} (f : A → B) (m w o n : ℕ) (xs : List A) → map f (taken_out m w o n xs) ≡ taken_out m w o n (map f xs)
taken_out-map f zero w o n xs = refl
taken_out-map {A} {B} f (suc m) w o n xs =
    let b : List A = take w xs in
    map-append f (take n (drop o b)) (taken_out m w o n (drop w xs))
    ∙ (λ j. sym (take-map f n (drop o b)) j ++ taken_out-map f m w o n (drop w xs) j)
    ∙ (λ j. take n (sym (drop-map f o b) j) ++ taken_out m w o n (sym (drop-map f w xs) j))
    ∙ (λ j. take n (drop o (sym (take-map f w xs) j)) ++ taken_out m w o n (drop w (map f xs)))

pub length-parts : {A : Type 0} (m w o n : ℕ) (xs : List A) → length (without m w o n xs) + length (taken_out m w o n xs) ≡ length xs
length-parts zero w o n xs = omega arith
length-parts {A} (suc m) w o n xs =
    let b : List A = take w xs in
    let d : List A = drop o b in
    let left : List A = without m w o n (drop w xs) in
    let gone : List A = taken_out m w o n (drop w xs) in
    omega (arith, length-append (take o b) (drop n d ++ left), length-append (drop n d) left, length-append (take n d) gone, halves w xs, halves o b, halves n d, length-parts m w o n (drop w xs))

module _ {A : Type 0} (P : A → Type 0) where
  all-join : (xs ys : List A) → AllByRecursion P xs → AllByRecursion P ys → AllByRecursion P (xs ++ ys)
  all-join [] ys a b = b
  all-join (x ∷ xs) ys a b = (a.0, all-join xs ys a.1 b)

  all-parts : (xs ys : List A) → AllByRecursion P (xs ++ ys) → AllByRecursion P xs × AllByRecursion P ys
  all-parts [] ys a = (tt, a)
  all-parts (x ∷ xs) ys a = let r = all-parts xs ys a.1 in ((a.0, r.0), r.1)

  all-halves : (n : ℕ) (xs : List A) → AllByRecursion P xs → AllByRecursion P (take n xs) × AllByRecursion P (drop n xs)
  all-halves n xs a = all-parts (take n xs) (drop n xs) (subst (AllByRecursion P) (sym (take-append-drop n xs)) a)

  pub all-taken_out : (m w o n : ℕ) (xs : List A) → AllByRecursion P xs → AllByRecursion P (taken_out m w o n xs)
  all-taken_out zero w o n xs a = tt
  all-taken_out (suc m) w o n xs a =
      let block = all-halves w xs a in
      let tail = all-halves o (take w xs) block.0 in
      all-join (take n (drop o (take w xs))) (taken_out m w o n (drop w xs)) (all-halves n (drop o (take w xs)) tail.1).0 (all-taken_out m w o n (drop w xs) block.1)

  pub all-without : (m w o n : ℕ) (xs : List A) → AllByRecursion P xs → AllByRecursion P (without m w o n xs)
  all-without zero w o n xs a = a
  all-without (suc m) w o n xs a =
      let block = all-halves w xs a in
      let tail = all-halves o (take w xs) block.0 in
      all-join (take o (take w xs)) (drop n (drop o (take w xs)) ++ without m w o n (drop w xs)) tail.0
      (all-join (drop n (drop o (take w xs))) (without m w o n (drop w xs)) (all-halves n (drop o (take w xs)) tail.1).1 (all-without m w o n (drop w xs) block.1))

  -- one that passes a test also has the property
  pub some_passes : {Q : Type 0} (p : A → Bool) (xs : List A) → AllByRecursion P xs → list_any p xs ≡ true → ((x : A) → P x → p x ≡ true → Q) → Q
  some_passes p [] a h f = absurd (let bad : false ≡ true = h in cc)
  some_passes {Q} p (x ∷ xs) a h f = by (p x) refl (λ any. some_passes p xs a.1 any f) h
    where
      by : (b : Bool) → p x ≡ b → (list_any p xs ≡ true → Q) → (b || list_any p xs) ≡ true → Q
      by true here later any = f x a.0 here
      by false here later any = later any

module _ {A : Type 0} (p : A → Bool) where
  none-halves : (n : ℕ) (xs : List A) → list_any p (take n xs) ≡ false → list_any p (drop n xs) ≡ false → list_any p xs ≡ false
  none-halves n xs a b =
      ap (list_any p) (sym (take-append-drop n xs)) ∙ list_any-append p (take n xs) (drop n xs) ∙ (λ i. a i || b i)

  none_both : (b c : Bool) → (b || c) ≡ false → (b ≡ false) × (c ≡ false)
  none_both true c h = absurd (let bad : true ≡ false = h in cc)
  none_both false c h = (refl, h)

  none-parts : (xs ys : List A) → list_any p (xs ++ ys) ≡ false → (list_any p xs ≡ false) × (list_any p ys ≡ false)
  none-parts xs ys h = none_both (list_any p xs) (list_any p ys) (sym (list_any-append p xs ys) ∙ h)

  -- what is in neither part is not in the list
  pub none_whole : (m w o n : ℕ) (xs : List A) → list_any p (without m w o n xs) ≡ false → list_any p (taken_out m w o n xs) ≡ false → list_any p xs ≡ false
  none_whole zero w o n xs a b = a
  none_whole (suc m) w o n xs a b =
      let d : List A = drop o (take w xs) in
      let first = none-parts (take o (take w xs)) (drop n d ++ without m w o n (drop w xs)) a in
      let second = none-parts (drop n d) (without m w o n (drop w xs)) first.1 in
      let gone = none-parts (take n d) (taken_out m w o n (drop w xs)) b in
      none-halves w xs (none-halves o (take w xs) first.0 (none-halves n d gone.0 second.0)) (none_whole m w o n (drop w xs) second.1 gone.1)

-- ---- their answers, put back, give the table before

-- a table has the answer of a cell
abbrev Has : (Who → Option Answer) → Kept → Type 0
Has table e = table e.who ≡ Some e.said.answer

any_old : (k : Who) (es : List Kept) → list_any (λ o. is_eq (request_order o.key k)) (map old_of es) ≡ list_any (λ e. is_eq (request_order e.who k)) es
any_old k [] = refl
any_old k (e ∷ es) = ap (λ b. is_eq (request_order e.who k) || b) (any_old k es)

all_right : (table : Who → Option Answer) (es : List Kept) → AllByRecursion (Has table) es → AllByRecursion (λ o. o.answer ≡ table o.key) (map old_of es)
all_right table [] h = tt
all_right table (e ∷ es) h = (sym h.0, all_right table es h.1)

all_pairs : {A : Type 0} (P Q : A → Type 0) (xs : List A) → AllByRecursion P xs → AllByRecursion Q xs → AllByRecursion (λ x. P x × Q x) xs
all_pairs P Q [] a b = tt
all_pairs P Q (x ∷ xs) a b = ((a.0, b.0), all_pairs P Q xs a.1 b.1)

pub dropped_old : (m w o n : ℕ) (cells : List Kept) → AreOld (map old_of (taken_out m w o n cells)) cells (without m w o n cells)
dropped_old m w o n cells before after is_before is_after =
    undoes-listed request_order (map old_of gone) before after (requests-respected before)
    (All-from_recursion (λ x. x.answer ≡ before x.key) (map old_of gone) (all_right before gone (all-taken_out (Has before) m w o n cells is_before.has)))
    (λ k none. by k (sym (any_old k gone) ∙ none) (list_any (λ e. is_eq (request_order e.who k)) left) refl)
  where
    gone : List Kept
    gone = taken_out m w o n cells

    left : List Kept
    left = without m w o n cells

    by : (k : Who) → list_any (λ e. is_eq (request_order e.who k)) gone ≡ false → (b : Bool) → list_any (λ e. is_eq (request_order e.who k)) left ≡ b → after k ≡ before k
    by k none true some =
        some_passes (λ e. Has before e × Has after e) (λ e. is_eq (request_order e.who k)) left
        (all_pairs (Has before) (Has after) left (all-without (Has before) m w o n cells is_before.has) is_after.has) some
        (λ e has same. let is : e.who ≡ k = same_request e.who k same in sym (ap after is) ∙ has.1 ∙ sym has.0 ∙ ap before is)
    by k none false nothing =
        is_after.only k nothing ∙ sym (is_before.only k (none_whole (λ e. is_eq (request_order e.who k)) m w o n cells nothing none))

-- ---- the answers of the cells under the keys that are taken out

gone_kept : (s : Slab Entry) (ks : List ℕ) → gone_in s ks ≡ map old_of (kept_of s ks)
gone_kept s [] = refl
gone_kept s (k ∷ ks) =
    ap (λ os. cons_option (option_map (λ e. old_of e.kept) (get s k)) os) (gone_kept s ks)
    ∙ by (get s k) (kept_of s ks)
    ∙ ap (map old_of) (sym (kept_cons s k ks))
  where
    by : (x : Option Entry) (es : List Kept) → cons_option (option_map (λ e. old_of e.kept) x) (map old_of es) ≡ map old_of (cons_option (option_map (λ e. e.kept) x) es)
    by None es = refl
    by (Some e) es = refl

module _ (s : Slab Entry) (m w o n : ℕ) (ks : List ℕ) (grid : IsGrid s ks) where
  taken_there : AllThere s (taken_out m w o n ks)
  taken_there = all_there s (taken_out m w o n ks) (λ k. omega (arith, times_parts k m w o n ks, grid_within s ks grid k))

  taken_entries : entries_of s (taken_out m w o n ks) ≡ taken_out m w o n (entries_of s ks)
  taken_entries =
      filled_inside (entries_of s (taken_out m w o n ks)) (taken_out m w o n (entries_of s ks))
      (shown s (taken_out m w o n ks) taken_there
      ∙ taken_out-map (slot s) m w o n ks
      ∙ sym (taken_out-map filled m w o n (entries_of s ks) ∙ ap (taken_out m w o n) (grid_shown s ks grid)))

  taken_kept : kept_of s (taken_out m w o n ks) ≡ taken_out m w o n (kept_of s ks)
  taken_kept =
      ap (λ (es : List (ℕ × Entry)). map (λ e. e.kept) (values es)) taken_entries
      ∙ ap (map (λ e. e.kept)) (taken_out-map (λ p. p.1) m w o n (entries_of s ks))
      ∙ taken_out-map (λ e. e.kept) m w o n (values (entries_of s ks))

  pub gone_taken : gone_in s (taken_out m w o n ks) ≡ map old_of (taken_out m w o n (kept_of s ks))
  gone_taken = gone_kept s (taken_out m w o n ks) ∙ ap (map old_of) taken_kept

  pub gone_old : AreOld (gone_in s (taken_out m w o n ks)) (kept_of s ks) (without m w o n (kept_of s ks))
  gone_old = subst (λ os. AreOld os (kept_of s ks) (without m w o n (kept_of s ks))) (sym gone_taken) (dropped_old m w o n (kept_of s ks))

  -- as many are left as were there, but for these
  pub gone_rest : length (without m w o n (kept_of s ks)) + length (gone_in s (taken_out m w o n ks)) ≡ length (kept_of s ks)
  gone_rest =
      let cells : List Kept = kept_of s ks in
      omega (arith, length-parts m w o n cells, ap length gone_taken, length-map (taken_out m w o n cells) old_of)
