-- Ways of a tree.
use Rattle.std.proofs.Common.{◌≡◌, ℕ, List, [], ◌∷◌, Option, Some, None, refl, sym, ap, ◌∙◌, subst, inl, inr, arith}
use Rattle.std.specs.Prelude.{◌⊎◌, slice_get}
use Rattle.std.specs.List.{AllByRecursion}
use Rattle.memo_trie.specs.Tree.{IsOnWay, IsTree, Reaches, Turn, key_at, key_in, leaf_at, leaf_in, next_at}
use Rattle.memo_trie.specs.declared.node.Node.{Node}
use Rattle.memo_trie.specs.declared.node.Node.TheVariants.{Ask, Leaf, Nothing}

some_same : {A : Type 0} (a b : A) → Some a ≡ Some b → a ≡ b
some_same a b h = cc

same_turn : {K : Type 0} (s t : Turn K) → s.key ≡ t.key → s.number ≡ t.number → s ≡ t
same_turn s t key number = ap (λ k. record { key = k; number = s.number }) key ∙ ap (λ n. record { key = t.key; number = n }) number

module _ {K L : Type 0} where
  -- one way alone leads to a place
  pub reached_once : (nodes : List (Node K L)) → IsTree nodes → (n : ℕ) (first second : List (Turn K)) → Reaches nodes n first → Reaches nodes n second → first ≡ second
  reached_once nodes tree n [] [] there here = refl
  reached_once nodes tree n [] (turn ∷ before) there here =
      let rises = tree.rises here.0 turn.number n here.1.1.0 in
      absurd (omega (arith, there, rises.0))
  reached_once nodes tree n (turn ∷ before) [] there here =
      let rises = tree.rises there.0 turn.number n there.1.1.0 in
      absurd (omega (arith, here, rises.0))
  reached_once nodes tree n (s ∷ ss) (t ∷ ts) there here =
      let same = tree.single there.0 here.0 s.number t.number n there.1.1.0 here.1.1.0 in
      let key : s.key ≡ t.key = some_same s.key t.key (sym there.1.0 ∙ ap (key_at nodes) same.0 ∙ here.1.0) in
      ap (λ u. u ∷ ss) (same_turn s t key same.1)
      ∙ ap (λ us. t ∷ us) (reached_once nodes tree there.0 ss ts there.1.1.1 (subst (λ b. Reaches nodes b ts) (sym same.0) here.1.1.1))

  -- each way begins at the first place
  pub begins_way : (nodes : List (Node K L)) (n : ℕ) (way : List (Turn K)) → Reaches nodes n way → IsOnWay nodes 0 n way
  begins_way nodes n [] there = sym there
  begins_way nodes n (turn ∷ before) there = inr (there.0, (there.1.0, (there.1.1.0, begins_way nodes there.0 before there.1.1.1)))

  -- no question stands at the end of a way
  no_end_asks : (o : Option (Node K L)) (k : K) (l : L) → key_in o ≡ Some k → leaf_in o ≡ Some l → ⊥
  no_end_asks (Some (Ask f)) k l key leaf = absurd (cc)
  no_end_asks (Some (Leaf m)) k l key leaf = absurd (cc)
  no_end_asks (Some Nothing) k l key leaf = absurd (cc)
  no_end_asks None k l key leaf = absurd (cc)

  -- where a question finds what the way found, the next place is on it too, unless the way ends here
  on_or_end : (nodes : List (Node K L)) (R : K → ℕ → Type 0) (n end : ℕ) (way : List (Turn K)) (k : K) (v : ℕ) → key_at nodes n ≡ Some k → ((w : ℕ) → R k w → w ≡ v)
      → AllByRecursion (λ t. R t.key t.number) way → IsOnWay nodes n end way → (n ≡ end) ⊎ ((m : ℕ) × ((next_at nodes n v ≡ Some m) × IsOnWay nodes m end way))
  on_or_end nodes R n end [] k v key only found on = inl on
  on_or_end nodes R n end (turn ∷ before) k v key only found (inl on) = inl on
  on_or_end nodes R n end (turn ∷ before) k v key only found (inr on) =
      inr (below on.0 on.1.0 on.1.1.0 on.1.1.1 (on_or_end nodes R n on.0 before k v key only found.1 on.1.1.1)) where
        below : (b : ℕ) → key_at nodes b ≡ Some turn.key → next_at nodes b turn.number ≡ Some end → IsOnWay nodes n b before
            → (n ≡ b) ⊎ ((m : ℕ) × ((next_at nodes n v ≡ Some m) × IsOnWay nodes m b before)) → (m : ℕ) × ((next_at nodes n v ≡ Some m) × IsOnWay nodes m end (turn ∷ before))
        below b asks leads later (inl here) =
            let same : turn.key ≡ k = some_same turn.key k (sym asks ∙ ap (key_at nodes) (sym here) ∙ key) in
            let number : turn.number ≡ v = only turn.number (subst (λ x. R x turn.number) same found.0) in
            (end, (ap (next_at nodes n) (sym number) ∙ ap (λ x. next_at nodes x turn.number) here ∙ leads, inl refl))
        below b asks leads later (inr further) = (further.0, (further.1.0, inr (b, (asks, (leads, further.1.1)))))

  pub goes_on : (nodes : List (Node K L)) (R : K → ℕ → Type 0) (n end : ℕ) (way : List (Turn K)) (k : K) (l : L) (v : ℕ) → leaf_at nodes end ≡ Some l → key_at nodes n ≡ Some k
      → ((w : ℕ) → R k w → w ≡ v) → AllByRecursion (λ t. R t.key t.number) way → IsOnWay nodes n end way → (m : ℕ) × ((next_at nodes n v ≡ Some m) × IsOnWay nodes m end way)
  goes_on nodes R n end way k l v leaf key only found on = later (on_or_end nodes R n end way k v key only found on) where
    later : (n ≡ end) ⊎ ((m : ℕ) × ((next_at nodes n v ≡ Some m) × IsOnWay nodes m end way)) → (m : ℕ) × ((next_at nodes n v ≡ Some m) × IsOnWay nodes m end way)
    later (inl here) = absurd (no_end_asks (slice_get nodes n) k l key (ap (leaf_at nodes) here ∙ leaf))
    later (inr further) = further

  -- a place on a way is its end, or a question stands there
  pub ends_or_asks : (nodes : List (Node K L)) (n end : ℕ) (way : List (Turn K)) → IsOnWay nodes n end way → (n ≡ end) ⊎ ((k : K) × (key_at nodes n ≡ Some k))
  ends_or_asks nodes n end [] on = inl on
  ends_or_asks nodes n end (turn ∷ before) (inl on) = inl on
  ends_or_asks nodes n end (turn ∷ before) (inr on) = inr (by (ends_or_asks nodes n on.0 before on.1.1.1)) where
    by : (n ≡ on.0) ⊎ ((k : K) × (key_at nodes n ≡ Some k)) → (k : K) × (key_at nodes n ≡ Some k)
    by (inl here) = (turn.key, ap (key_at nodes) here ∙ on.1.0)
    by (inr asks) = asks
