-- What is counted over all parts.
use Rattle.std.proofs.Common.{◌≡◌, ℕ, ◌+◌, List, [], ◌∷◌, ◌++◌, length, map, Bool, true, false, cond, Some}
use Rattle.std.proofs.Common.{refl, sym, ap, ◌∙◌, arith, length-append}
use Rattle.std.specs.Prelude.{filter, slice_get}
use Rattle.std.specs.List.{flat_map, sum, sum_by}
use Rattle.std.proofs.lemmas.List.{length-map}
use Rattle.std.proofs.lemmas.List.Elements.{filter-append}
use Rattle.std.proofs.lemmas.List.Sums.{sum-map}
use Rattle.ent_table.specs.State.{State, table_of}
use Rattle.ent_report.specs.declared.counts.Counts.{Counts}
use Rattle.ent_combine.specs.declared.outcome.Outcome.{Outcome}
use Rattle.ent_report.specs.Reports.{counted, counts, is_deny, is_indeterminate, is_not_applicable, is_permit}
use Rattle.ent_table.proofs.Counts.{passing}
use Rattle.law_split.specs.Split.{IsSplit}
use Rattle.law_split.specs.Merged.{summed}
use Rattle.law_split.proofs.Pieces.{IsAdditive, IsShare, Splits, pieces, sum_of_all}
use Rattle.law_split.proofs.Tabled.{Cell, at_map, base_of, block, rows_of_part, table_rows}

-- ---- counting is additive

passing-append : {X : Type 0} (p : X → Bool) (xs ys : List X) → passing p (xs ++ ys) ≡ passing p xs + passing p ys
passing-append p xs ys = ap length (filter-append p xs ys) ∙ length-append (filter p xs) (filter p ys)

module _ {K B : Type 0} (t : B → Bool) (row : K → List B) where
  -- how many rows of those that are chosen pass
  abbrev pub chosen : List K → (K → Bool) → ℕ
  chosen xs p = passing t (flat_map row (filter p xs))

  one_more : (x : K) (xs : List K) (p : K → Bool) → chosen (x ∷ xs) p ≡ cond (p x) (passing t (row x)) 0 + chosen xs p
  one_more x xs p = by (p x)
    where
      by : (b : Bool) → passing t (flat_map row (cond b (x ∷ filter p xs) (filter p xs))) ≡ cond b (passing t (row x)) 0 + chosen xs p
      by true = passing-append t (row x) (flat_map row (filter p xs))
      by false = omega arith

  none_chosen : (xs : List K) (p : K → Bool) → ((x : K) → p x ≡ false) → chosen xs p ≡ 0
  none_chosen [] p h = refl
  none_chosen (x ∷ xs) p h = ap (λ b. passing t (flat_map row (cond b (x ∷ filter p xs) (filter p xs)))) (h x) ∙ none_chosen xs p h

  both_chosen : (xs : List K) (p q r : K → Bool) → ((x : K) → Splits (p x) (q x) (r x)) → chosen xs p ≡ chosen xs q + chosen xs r
  both_chosen [] p q r h = refl
  both_chosen (x ∷ xs) p q r h =
      let a = one_more x xs p in
      let b = one_more x xs q in
      let c = one_more x xs r in
      let d = split_once (p x) (q x) (r x) (h x) (passing t (row x)) in
      let e = both_chosen xs p q r h in
      omega (arith, a, b, c, d, e)
    where
      split_once : (a b c : Bool) → Splits a b c → (n : ℕ) → cond a n 0 ≡ cond b n 0 + cond c n 0
      split_once true true false s n = omega arith
      split_once true false true s n = omega arith
      split_once false false false s n = omega arith
      split_once true true true s n = absurd s
      split_once true false false s n = absurd s
      split_once false true c s n = absurd s
      split_once false false true s n = absurd s

  pub chosen_additive : (xs : List K) → IsAdditive (chosen xs)
  chosen_additive xs = record { none = none_chosen xs; both = both_chosen xs }

  all_chosen : (xs : List K) → filter (λ x. true) xs ≡ xs
  all_chosen [] = refl
  all_chosen (x ∷ xs) = ap (λ l. x ∷ l) (all_chosen xs)

  pub chosen_all : (xs : List K) → chosen xs (λ x. true) ≡ passing t (flat_map row xs)
  chosen_all xs = ap (λ l. passing t (flat_map row l)) (all_chosen xs)

pub sum_additive : {K : Type 0} (v w : (K → Bool) → ℕ) → IsAdditive v → IsAdditive w → IsAdditive (λ p. v p + w p)
sum_additive v w a b = record {
  none = λ p h. omega (arith, a.none p h, b.none p h);
  both = λ p q r h. omega (arith, a.both p q r h, b.both p q r h);
}

-- ---- counts

module _ (part_of : List ℕ → ℕ) (whole : State) (parts : List State) (split : IsSplit part_of whole parts) where
  module _ (test : Outcome → Bool) where
    abbrev passes : Cell → Bool
    passes c = test c.1.decision

    counted_in_parts : (ns : List ℕ) → length ns ≡ length parts
        → ((i : ℕ) (n : ℕ) → slice_get ns i ≡ Some n → (part : State) × ((slice_get parts i ≡ Some part) × (n ≡ counted test (table_of part))))
        → counted test (table_of whole) ≡ sum ns
    counted_in_parts ns long each =
        let row = block (base_of whole) in
        let people = whole.names.people in
        ap (passing passes) (table_rows whole)
        ∙ sym (chosen_all passes row people)
        ∙ sym (sum_of_all part_of (chosen passes row people) (chosen_additive passes row people) ns
        (λ person. omega (arith, split.placed person, long))
        (pieces (IsShare part_of (chosen passes row people) (chosen_additive passes row people)) ns
        (λ i n e. let one = each i n e in one.1.1 ∙ ap (passing passes) (rows_of_part part_of whole parts split table_of block table_rows i one.0 one.1.0))))

  -- one of the four
  one_count : (test : Outcome → Bool) (f : Counts → ℕ) → ((s : State) → f (counts s) ≡ counted test (table_of s)) → counted test (table_of whole) ≡ sum_by f (map counts parts)
  one_count test f same =
      counted_in_parts test (map f (map counts parts)) (length-map (map counts parts) f ∙ length-map parts counts)
      (λ i n e.
      let one = at_map f (map counts parts) i n e in
      let two = at_map counts parts i one.0 one.1.0 in
      (two.0, (two.1.0, one.1.1 ∙ ap f two.1.1 ∙ same two.0)))
      ∙ sum-map f (map counts parts)

  pub counts_summed : counts whole ≡ summed (map counts parts)
  counts_summed = λ i. record {
    deny = one_count is_deny (λ c. c.deny) (λ s. refl) i;
    indeterminate = one_count is_indeterminate (λ c. c.indeterminate) (λ s. refl) i;
    not_applicable = one_count is_not_applicable (λ c. c.not_applicable) (λ s. refl) i;
    permit = one_count is_permit (λ c. c.permit) (λ s. refl) i;
  }
