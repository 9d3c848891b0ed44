-- A map of what a function makes of the values of another, without those of which it makes nothing.
use Rattle.std.proofs.Common.{◌≡◌, Bool, true, false, cond, T, List, [], ◌∷◌, Option, Some, None, refl, sym, ap, ◌∙◌}
use Rattle.std.specs.Cmp.{IsTotalOrder}
use Rattle.std.specs.FinMap.{FinMap, IsAntisymmetric, entries, entries-from_sorted, entries_sorted, find, from_entries, from_sorted, get, get-entries, get-from_entries, get-from_sorted, get-insert, get-remove, get_tied, insert, is_sorted, remove, same_map}
use Rattle.std.specs.FinMap.Entries.{below_all}
use Rattle.std.specs.List.{cons_option, filter_map}
use Rattle.std.specs.Option.{option_map}
use Rattle.std.specs.Ordering.{eq_by_cmp, is_eq, is_lt}
use Rattle.std.specs.declared.cmp.Ordering.{Ordering}
use Rattle.std.specs.declared.cmp.Ordering.TheVariants.{Less, Equal, Greater}
use Rattle.std.proofs.lemmas.Cmp.{tied_itself}
use Rattle.ent_finder.proofs.Sorted.{both, equal, first, none_tied, second}

-- one of two answers, where the second stands for the first at keys that tie
once : {A : Type 0} (b : Bool) (x y z : A) → (b ≡ true → x ≡ z) → cond b x (cond b y z) ≡ z
once true x y z h = h refl
once false x y z h = refl

-- ---- a second insertion

module _ {K X : Type 0} {R : K → K → Ordering} (o : IsTotalOrder R) (m : FinMap R X) (k : K) where
  pub there_after : (v : X) → get (insert m k v) k ≡ Some v
  there_after v = get-insert o m k v k ∙ ap (λ r. cond (is_eq r) (Some v) (get m k)) (tied_itself o k)

  -- it puts back what was there
  pub restored : IsAntisymmetric R → (u v : X) → get m k ≡ Some u → insert (insert m k v) k u ≡ m
  restored same u v is = same_map o same _ m (λ q.
      get-insert o (insert m k v) k u q ∙ ap (cond (eq_by_cmp R q k) (Some u)) (get-insert o m k v q)
      ∙ once (eq_by_cmp R q k) (Some u) (Some v) (get m q) (λ t. sym is ∙ get_tied o m q k (equal _ t)))

-- ---- the entries that are kept

module _ {K X Y : Type 0} (R : K → K → Ordering) (h : X → Option Y) where
  abbrev pub kept : List (K × X) → List (K × Y)
  kept = filter_map (λ e. option_map (λ y. (e.0, y)) (h e.1))

  abbrev pub keep : FinMap R X → FinMap R Y
  keep m = from_entries (filter_map (λ e. option_map (λ y. (e.0, y)) (h e.1)) (entries m))

  below_kept : (k : K) (es : List (K × X)) → T (below_all R k es) → T (below_all R k (kept es))
  below_kept k [] t = tt
  below_kept k (e ∷ es) t = by (h e.1) (below_kept k es (second (is_lt (R k e.0)) (below_all R k es) t))
    where
      by : (o : Option Y) → T (below_all R k (kept es)) → T (below_all R k (cons_option (option_map (λ y. (e.0, y)) o) (kept es)))
      by None rest = rest
      by (Some y) rest = both (is_lt (R k e.0)) (below_all R k (kept es)) (first (is_lt (R k e.0)) (below_all R k es) t) rest

  pub sorted_kept : (es : List (K × X)) → T (is_sorted R es) → T (is_sorted R (kept es))
  sorted_kept [] t = tt
  sorted_kept (e ∷ es) t = by (h e.1) (below_kept e.0 es (first (below_all R e.0 es) (is_sorted R es) t)) (sorted_kept es (second (below_all R e.0 es) (is_sorted R es) t))
    where
      by : (o : Option Y) → T (below_all R e.0 (kept es)) → T (is_sorted R (kept es)) → T (is_sorted R (cons_option (option_map (λ y. (e.0, y)) o) (kept es)))
      by None under rest = rest
      by (Some y) under rest = both (below_all R e.0 (kept es)) (is_sorted R (kept es)) under rest

module _ {K X Y : Type 0} {R : K → K → Ordering} (o : IsTotalOrder R) (h : X → Option Y) (flat : Option X → Option Y) (none : flat None ≡ None) (some : (x : X) → flat (Some x) ≡ h x) where
  find-kept : (k : K) (es : List (K × X)) → T (is_sorted R es) → find R k (kept R h es) ≡ flat (find R k es)
  find-kept k [] t = sym none
  find-kept k (e ∷ es) t =
      by (h e.1) refl (below_kept R h e.0 es (first (below_all R e.0 es) (is_sorted R es) t)) (find-kept k es (second (below_all R e.0 es) (is_sorted R es) t))
    where
      empty_here : (r : Ordering) → R k e.0 ≡ r → h e.1 ≡ None → T (below_all R e.0 (kept R h es)) → find R k (kept R h es) ≡ flat (find R k es) → find R k (kept R h es) ≡ flat (cond (is_eq r) (Some e.1) (find R k es))
      empty_here Less c p under rest = rest
      empty_here Equal c p under rest = none_tied o k e.0 (kept R h es) c under ∙ sym (some e.1 ∙ p)
      empty_here Greater c p under rest = rest

      full_here : (r : Ordering) (y : Y) → h e.1 ≡ Some y → find R k (kept R h es) ≡ flat (find R k es) → cond (is_eq r) (Some y) (find R k (kept R h es)) ≡ flat (cond (is_eq r) (Some e.1) (find R k es))
      full_here Less y p rest = rest
      full_here Equal y p rest = sym (some e.1 ∙ p)
      full_here Greater y p rest = rest

      by : (q : Option Y) → h e.1 ≡ q → T (below_all R e.0 (kept R h es)) → find R k (kept R h es) ≡ flat (find R k es) → find R k (cons_option (option_map (λ y. (e.0, y)) q) (kept R h es)) ≡ flat (cond (is_eq (R k e.0)) (Some e.1) (find R k es))
      by None p under rest = empty_here (R k e.0) refl p under rest
      by (Some y) p under rest = full_here (R k e.0) y p rest

  -- ---- the maps

  -- what is kept under a key
  pub get-keep : (m : FinMap R X) (k : K) → get (keep R h m) k ≡ flat (get m k)
  get-keep m k = get-from_entries o (kept R h (entries m)) k ∙ find-kept k (entries m) (entries_sorted m) ∙ ap flat (sym (get-entries m k))

  -- the same of a map into which a value is put
  pub flat-insert : (m : FinMap R X) (k : K) (v : X) (q : K) → flat (get (insert m k v) q) ≡ cond (eq_by_cmp R q k) (h v) (flat (get m q))
  flat-insert m k v q = ap flat (get-insert o m k v q) ∙ by (eq_by_cmp R q k)
    where
      by : (b : Bool) → flat (cond b (Some v) (get m q)) ≡ cond b (h v) (flat (get m q))
      by true = some v
      by false = refl

  module _ (same : IsAntisymmetric R) where
    pub entries-keep : (m : FinMap R X) → entries (keep R h m) ≡ kept R h (entries m)
    entries-keep m =
        let es = kept R h (entries m) in
        let sorted = sorted_kept R h (entries m) (entries_sorted m) in
        let is : keep R h m ≡ from_sorted es = same_map o same _ _ (λ q. get-from_entries o es q ∙ sym (get-from_sorted R es q sorted)) in
        ap entries is ∙ entries-from_sorted R es sorted

    -- two maps keep the same where they do under each key
    pub same_keep : (m n : FinMap R X) → ((k : K) → flat (get m k) ≡ flat (get n k)) → keep R h m ≡ keep R h n
    same_keep m n is = same_map o same (keep R h m) (keep R h n) (λ k. get-keep m k ∙ is k ∙ sym (get-keep n k))

    pub keep-insert_none : (m : FinMap R X) (k : K) (v : X) → h v ≡ None → keep R h (insert m k v) ≡ remove (keep R h m) k
    keep-insert_none m k v e = same_map o same _ _ (λ q.
        get-keep (insert m k v) q ∙ flat-insert m k v q ∙ (λ t. cond (eq_by_cmp R q k) (e t) (sym (get-keep m q) t)) ∙ sym (get-remove o (keep R h m) k q))

    pub keep-insert_some : (m : FinMap R X) (k : K) (v : X) (y : Y) → h v ≡ Some y → keep R h (insert m k v) ≡ insert (keep R h m) k y
    keep-insert_some m k v y e = same_map o same _ _ (λ q.
        get-keep (insert m k v) q ∙ flat-insert m k v q ∙ (λ t. cond (eq_by_cmp R q k) (e t) (sym (get-keep m q) t)) ∙ sym (get-insert o (keep R h m) k y q))

    -- a second insertion puts back what was kept
    pub keep_restored : (m : FinMap R X) (k : K) (u v : X) → h u ≡ flat (get m k) → keep R h (insert (insert m k v) k u) ≡ keep R h m
    keep_restored m k u v is = same_keep _ m (λ q.
        flat-insert (insert m k v) k u q ∙ ap (cond (eq_by_cmp R q k) (h u)) (flat-insert m k v q)
        ∙ once (eq_by_cmp R q k) (h u) (h v) (flat (get m q)) (λ t. is ∙ ap flat (get_tied o m q k (equal _ t))))
