-- Flags of documents, one reference after the other.
use Rattle.std.proofs.Common.{◌≡◌, ◌∙◌, ◌-◌, ◌+◌, ◌≤◌, ℕ, zero, suc, List, [], ◌∷◌, Bool, true, ap, sym, refl, arith, map, add-one}
use Rattle.std.proofs.Math.Bool.{beq}
use Rattle.std.specs.Cmp.{booleans_Decides}
use Rattle.std.specs.Cmp.Lexicographic.{pointwise, pointwise_decides}
use Rattle.lint_links.specs.proofs_only.Rows.{flags_after, is_one_set}

-- lists of flags that are found to be the same are
pub same_flags : (xs ys : List Bool) → pointwise beq xs ys ≡ true → xs ≡ ys
same_flags xs ys e = (pointwise_decides booleans_Decides xs ys).0 e

-- one element after the other, through what it is seen as
pub map_twice : {A B C : Type 0} (f : A → B) (g : B → C) (xs : List A) → map g (map f xs) ≡ map (λ x. g (f x)) xs
map_twice f g [] = refl
map_twice f g (x ∷ xs) = λ i. g (f x) ∷ map_twice f g xs i

-- before the first reference each flag is set
pub at_first : {A : Type 0} (f : A → List ℕ) (rows : List A) (flags : List Bool) → flags ≡ map (λ _. true) rows → flags ≡ flags_after (map f rows) 0
at_first f rows flags is = is ∙ sym (map_twice f (λ _. true) rows)

-- one reference more
pub one_further : {A : Type 0} (f : A → List ℕ) (rows : List A) (flags next : List Bool) (hops : ℕ) → flags ≡ flags_after (map f rows) hops
    → next ≡ map (λ row. is_one_set flags (f row)) rows → next ≡ flags_after (map f rows) (hops + 1)
one_further f rows flags next hops before is =
    is ∙ sym (map_twice f (is_one_set flags) rows) ∙ ap (λ fs. map (is_one_set fs) (map f rows)) before ∙ ap (flags_after (map f rows)) (sym (add-one hops))

module _ (rows : List (List ℕ)) (hops : ℕ) (same : flags_after rows (hops + 1) ≡ flags_after rows hops) where
  next : flags_after rows (suc hops) ≡ flags_after rows hops
  next = ap (flags_after rows) (sym (add-one hops)) ∙ same

  none : (hops : ℕ) → 0 + hops ≡ hops
  none hops = omega arith

  one : (n hops : ℕ) → suc n + hops ≡ suc (n + hops)
  one n hops = omega arith

  more : (n : ℕ) → flags_after rows (n + hops) ≡ flags_after rows hops
  more zero = ap (flags_after rows) (none hops)
  more (suc n) = ap (flags_after rows) (one n hops) ∙ ap (λ flags. map (is_one_set flags) rows) (more n) ∙ next

  left : (end : ℕ) → hops ≤ end → end ≡ (end - hops) + hops
  left end within = omega (arith, within)

  -- where one reference more changes nothing, no number of references does
  pub settled : (end : ℕ) → hops ≤ end → flags_after rows end ≡ flags_after rows hops
  settled end within = ap (flags_after rows) (left end within) ∙ more (end - hops)
