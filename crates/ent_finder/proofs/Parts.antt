-- Entries in the order of their keys, where those in front come before a key, and those behind come after it.
use Rattle.std.proofs.Common.{◌≡◌, Bool, cond, T, List, [], ◌∷◌, ◌++◌, Some, None, refl, ap, ◌∙◌}
use Rattle.std.specs.Cmp.{IsTotalOrder}
use Rattle.std.specs.FinMap.{find, is_sorted, put}
use Rattle.std.specs.FinMap.Entries.{below_all, by_order}
use Rattle.std.specs.List.{list_all}
use Rattle.std.specs.Ordering.{is_eq, is_lt, ordering_reverse}
use Rattle.std.specs.declared.cmp.Ordering.{Ordering}
use Rattle.std.specs.declared.cmp.Ordering.TheVariants.{Less, Equal, Greater}
use Rattle.ent_finder.proofs.Sorted.{both, first, is_true, less, second}

module _ {K X : Type 0} (R : K → K → Ordering) where
  -- whether all keys come before one
  abbrev pub all_before : K → List (K × X) → Bool
  all_before k = list_all (λ e. is_lt (R e.0 k))

  pub below_front : (x : K) (es fs : List (K × X)) → T (below_all R x (es ++ fs)) → T (below_all R x es)
  below_front x [] fs t = tt
  below_front x (e ∷ es) fs t =
      both (is_lt (R x e.0)) (below_all R x es) (first (is_lt (R x e.0)) (below_all R x (es ++ fs)) t) (below_front x es fs (second (is_lt (R x e.0)) (below_all R x (es ++ fs)) t))

  pub below_back : (x : K) (es fs : List (K × X)) → T (below_all R x (es ++ fs)) → T (below_all R x fs)
  below_back x [] fs t = t
  below_back x (e ∷ es) fs t = below_back x es fs (second (is_lt (R x e.0)) (below_all R x (es ++ fs)) t)

  pub sorted_front : (es fs : List (K × X)) → T (is_sorted R (es ++ fs)) → T (is_sorted R es)
  sorted_front [] fs t = tt
  sorted_front (e ∷ es) fs t =
      both (below_all R e.0 es) (is_sorted R es) (below_front e.0 es fs (first (below_all R e.0 (es ++ fs)) (is_sorted R (es ++ fs)) t))
      (sorted_front es fs (second (below_all R e.0 (es ++ fs)) (is_sorted R (es ++ fs)) t))

  pub sorted_back : (es fs : List (K × X)) → T (is_sorted R (es ++ fs)) → T (is_sorted R fs)
  sorted_back [] fs t = t
  sorted_back (e ∷ es) fs t = sorted_back es fs (second (below_all R e.0 (es ++ fs)) (is_sorted R (es ++ fs)) t)

after : {K : Type 0} {R : K → K → Ordering} → IsTotalOrder R → (k x : K) → T (is_lt (R x k)) → R k x ≡ Greater
after o k x t = o.antisymm k x ∙ ap ordering_reverse (less _ (is_true _ t))

module _ {K X : Type 0} {R : K → K → Ordering} (o : IsTotalOrder R) (k : K) where
  -- ---- behind entries that come before the key

  put_behind : (v : X) (es fs : List (K × X)) → T (all_before R k es) → put R k v (es ++ fs) ≡ es ++ put R k v fs
  put_behind v [] fs t = refl
  put_behind v (e ∷ es) fs t =
      ap (λ r. by_order r ((k, v) ∷ e ∷ (es ++ fs)) ((e.0, v) ∷ (es ++ fs)) (e ∷ put R k v (es ++ fs))) (after o k e.0 (first (is_lt (R e.0 k)) (all_before R k es) t))
      ∙ ap (λ gs. e ∷ gs) (put_behind v es fs (second (is_lt (R e.0 k)) (all_before R k es) t))

  find_behind : (es fs : List (K × X)) → T (all_before R k es) → find R k (es ++ fs) ≡ find R k fs
  find_behind [] fs t = refl
  find_behind (e ∷ es) fs t =
      ap (λ r. cond (is_eq r) (Some e.1) (find R k (es ++ fs))) (after o k e.0 (first (is_lt (R e.0 k)) (all_before R k es) t))
      ∙ find_behind es fs (second (is_lt (R e.0 k)) (all_before R k es) t)

  -- ---- in front of entries that come after it

  put_before : (v : X) (es fs : List (K × X)) → T (below_all R k fs) → put R k v (es ++ fs) ≡ put R k v es ++ fs
  put_before v [] [] t = refl
  put_before v [] (f ∷ fs) t = ap (λ r. by_order r ((k, v) ∷ f ∷ fs) ((f.0, v) ∷ fs) (f ∷ put R k v fs)) (less _ (is_true _ (first (is_lt (R k f.0)) (below_all R k fs) t)))
  put_before v (e ∷ es) fs t = by (R k e.0) (put_before v es fs t)
    where
      by : (r : Ordering) → put R k v (es ++ fs) ≡ put R k v es ++ fs → by_order r ((k, v) ∷ e ∷ (es ++ fs)) ((e.0, v) ∷ (es ++ fs)) (e ∷ put R k v (es ++ fs)) ≡ by_order r ((k, v) ∷ e ∷ es) ((e.0, v) ∷ es) (e ∷ put R k v es) ++ fs
      by Less h = refl
      by Equal h = refl
      by Greater h = ap (λ gs. e ∷ gs) h

  find_none : (fs : List (K × X)) → T (below_all R k fs) → find R k fs ≡ None
  find_none [] t = refl
  find_none (f ∷ fs) t =
      ap (λ r. cond (is_eq r) (Some f.1) (find R k fs)) (less _ (is_true _ (first (is_lt (R k f.0)) (below_all R k fs) t))) ∙ find_none fs (second (is_lt (R k f.0)) (below_all R k fs) t)

  find_before : (es fs : List (K × X)) → T (below_all R k fs) → find R k (es ++ fs) ≡ find R k es
  find_before [] fs t = find_none fs t
  find_before (e ∷ es) fs t = ap (λ q. cond (is_eq (R k e.0)) (Some e.1) q) (find_before es fs t)

  -- ---- between them

  module _ (es fs gs : List (K × X)) (in_front : T (all_before R k es)) (behind : T (below_all R k gs)) where
    pub put_between : (v : X) → put R k v (es ++ (fs ++ gs)) ≡ es ++ (put R k v fs ++ gs)
    put_between v = put_behind v es (fs ++ gs) in_front ∙ ap (λ hs. es ++ hs) (put_before v fs gs behind)

    pub find_between : find R k (es ++ (fs ++ gs)) ≡ find R k fs
    find_between = find_behind es (fs ++ gs) in_front ∙ find_before fs gs behind
