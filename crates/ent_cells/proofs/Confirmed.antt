-- The candidates that are confirmed: each cell that reads one of some keys, once.
use Rattle.std.proofs.Common.{◌≡◌, inl, inr, option_map, ℕ, ◌+◌, Bool, true, false, ◌||◌, cond, nat_eq, List, [], ◌∷◌, filter, Option, Some, None, refl, sym, ap, ◌∙◌, arith}
use Rattle.std.specs.Prelude.{IfOk, Result, Ok, Err}
use Rattle.std.specs.Ordering.{nat_cmp, is_eq, eq_by_cmp}
use Rattle.std.specs.List.{AllByRecursion, list_any}
use Rattle.std.specs.List.Sorted.{IsStrictlySortedBy}
use Rattle.std.proofs.lemmas.Bool.{true≢false}
use Rattle.std.proofs.lemmas.Bool.Decides.{eqb_tells}
use Rattle.std.proofs.lemmas.Map.Keys.{IsDistinct-from_sorted, IsDistinct-head, sorted_tail}
use Rattle.slab.specs.Slab.{Slab, get}
use Rattle.ent_request.specs.declared.key.ReadKey.{ReadKey}
use Rattle.ent_request.specs.declared.question.Question.{Question}
use Rattle.ent_index.proofs.Views.{cell_itself, not_cell}
use Rattle.ent_index.specs.declared.groups.Groups.{Groups}
use Rattle.ent_index.specs.declared.wanted.Wanted.{Wanted}
use Rattle.ent_index.specs.Groups.{AreWanted, Covers, is_member, numbers_of}
use Rattle.ent_cells.proofs.StoreSteps.{get_seen}
use Rattle.ent_cells.specs.declared.cell.Cell.{Cell}
use Rattle.ent_cells.specs.Grid.{times}
use Rattle.ent_cells.specs.proofs_only.Entries.{touched_at}
use Rattle.ent_cells.specs.proofs_only.Grouping.{IsStore, entry_in, seen, wanted_at}

abbrev bit : Bool → ℕ
bit b = cond b 1 0

-- ---- distinct numbers

none_times : (x : ℕ) (ks : List ℕ) → AllByRecursion (λ y. eq_by_cmp nat_cmp x y ≡ false) ks → times x ks ≡ 0
none_times x [] a = refl
none_times x (y ∷ ks) a = elim (eqb_tells x y) [
  | inl p ↦ absurd (true≢false (sym (cell_itself x x refl) ∙ ap (λ (n : ℕ). is_eq (nat_cmp x n)) p.1 ∙ a.0))
  | inr p ↦ let rest = none_times x ks a.1 in omega (arith, ap bit p.0)
]

at_head : (same is any : Bool) (n : ℕ) → same ≡ true → is ≡ true → n ≡ 0 → cond same 1 0 + n ≡ cond (is || any) 1 0
at_head true true any n e f h = omega (arith, h)
at_head true false any n e f h = absurd (cc)
at_head false is any n e f h = absurd (cc)

at_tail : (same is any : Bool) (n : ℕ) → same ≡ false → is ≡ false → n ≡ cond any 1 0 → cond same 1 0 + n ≡ cond (is || any) 1 0
at_tail false false any n e f h = omega (arith, h)
at_tail false true any n e f h = absurd (cc)
at_tail true is any n e f h = absurd (cc)

times_sorted : (ks : List ℕ) → IsStrictlySortedBy nat_cmp ks → (c : ℕ) → times c ks ≡ cond (list_any (λ x. is_eq (nat_cmp c x)) ks) 1 0
times_sorted [] o c = refl
times_sorted (x ∷ ks) o c = elim (eqb_tells c x) [
  | inl p ↦
      at_head (nat_eq c x) (is_eq (nat_cmp c x)) (list_any (λ y. is_eq (nat_cmp c y)) ks) (times c ks) p.0
      (cell_itself c x p.1)
      (ap (λ (n : ℕ). times n ks) p.1 ∙ none_times x ks (IsDistinct-head (eq_by_cmp nat_cmp) x ks (IsDistinct-from_sorted nat_cmp (x ∷ ks) o)))
  | inr p ↦
      at_tail (nat_eq c x) (is_eq (nat_cmp c x)) (list_any (λ y. is_eq (nat_cmp c y)) ks) (times c ks) p.0 (not_cell c x p.1) (times_sorted ks (sorted_tail nat_cmp x ks o) c)
]

-- ---- a number among those that pass

kept_by : (pass same : Bool) (n m : ℕ) → m ≡ cond pass n 0 → cond pass (cond same 1 0 + m) m ≡ cond pass (cond same 1 0 + n) 0
kept_by true same n m h = omega (arith, h)
kept_by false same n m h = h

other_by : (pass px same : Bool) (n m : ℕ) → same ≡ false → m ≡ cond pass n 0 → cond px (cond same 1 0 + m) m ≡ cond pass (cond same 1 0 + n) 0
other_by true true false n m s h = omega (arith, h)
other_by true false false n m s h = omega (arith, h)
other_by false true false n m s h = omega (arith, h)
other_by false false false n m s h = h
other_by pass px true n m s h = absurd (cc)

times_cond : (c : ℕ) (b : Bool) (x : ℕ) (ks : List ℕ) → times c (cond b (x ∷ ks) ks) ≡ cond b (cond (nat_eq c x) 1 0 + times c ks) (times c ks)
times_cond c true x ks = refl
times_cond c false x ks = refl

none_left : (b : Bool) (z : ℕ) → z ≡ cond b z z
none_left true z = refl
none_left false z = refl

times_filter : (p : ℕ → Bool) (c : ℕ) (ks : List ℕ) → times c (filter p ks) ≡ cond (p c) (times c ks) 0
times_filter p c [] = none_left (p c) 0
times_filter p c (x ∷ ks) = elim (eqb_tells c x) [
  | inl q ↦
      times_cond c (p x) x (filter p ks)
      ∙ ap (λ (b : Bool). cond b (cond (nat_eq c x) 1 0 + times c (filter p ks)) (times c (filter p ks))) (ap p (sym q.1))
      ∙ kept_by (p c) (nat_eq c x) (times c ks) (times c (filter p ks)) (times_filter p c ks)
  | inr q ↦
      times_cond c (p x) x (filter p ks)
      ∙ other_by (p c) (p x) (nat_eq c x) (times c ks) (times c (filter p ks)) q.0 (times_filter p c ks)
]

-- ---- cells that read one of some keys

once_by : (touched there : Bool) → (touched ≡ true → there ≡ true) → cond touched (bit there) 0 ≡ bit touched
once_by true there f = ap bit (f refl)
once_by false there f = refl

module _ (q : List Question) (g : Groups) (s : Slab Cell) (is : IsStore q g s) (keys : List ReadKey) (wanted : List Wanted) (are : AreWanted q keys wanted) where
  -- a cell reads what is wanted exactly if it reads one of the keys
  wanted_touched : (c : ℕ) → wanted_at g wanted (get s c) ≡ touched_at keys (get (seen q g s) c)
  wanted_touched c = by (get s c) refl ∙ ap (touched_at keys) (sym (get_seen q g s c))
    where
      by : (o : Option Cell) → get s c ≡ o → wanted_at g wanted o ≡ touched_at keys (option_map (entry_in q g) o)
      by None e = refl
      by (Some cell) e = are cell.who.person cell.who.action cell.who.resource (numbers_of g cell.said.group) (is c cell e).said.within

  -- one that reads what is wanted is a candidate
  covered : (cells : List ℕ) → Covers g wanted cells → (c : ℕ) → wanted_at g wanted (get s c) ≡ true → is_member cells c ≡ true
  covered cells covers c h = by (get s c) refl h
    where
      by : (o : Option Cell) → get s c ≡ o → wanted_at g wanted o ≡ true → is_member cells c ≡ true
      by None e h = absurd (true≢false (sym h))
      by (Some cell) e h = covers cell.who.person cell.who.action cell.who.resource cell.said.group c (is c cell e).named (is c cell e).said.there h

  -- each touched cell once, and no other
  pub confirmed : (cells kept : List ℕ) → IsStrictlySortedBy nat_cmp cells → Covers g wanted cells → kept ≡ filter (λ c. wanted_at g wanted (get s c)) cells
      → (c : ℕ) → times c kept ≡ cond (touched_at keys (get (seen q g s) c)) 1 0
  confirmed cells kept ordered covers kept_is c =
      ap (times c) kept_is
      ∙ times_filter (λ x. wanted_at g wanted (get s x)) c cells
      ∙ (λ i. cond (wanted_touched c i) (times_sorted cells ordered c i) 0)
      ∙ once_by (touched_at keys (get (seen q g s) c)) (is_member cells c) (λ h. covered cells covers c (wanted_touched c ∙ h))

-- what two facts of what came well say
pub if_ok_both : {A E : Type 0} {P Q R : A → Type 0} (r : Result A E) → ((a : A) → P a → Q a → R a) → IfOk r P → IfOk r Q → IfOk r R
if_ok_both (Ok a) f p q = f a p q
if_ok_both (Err e) f p q = tt

pub if_ok_three : {A E : Type 0} {P Q R S : A → Type 0} (r : Result A E) → ((a : A) → P a → Q a → R a → S a) → IfOk r P → IfOk r Q → IfOk r R → IfOk r S
if_ok_three (Ok a) f p q s = f a p q s
if_ok_three (Err e) f p q s = tt
