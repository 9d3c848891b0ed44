-- Places of a tree that are changed.
use Rattle.std.proofs.Common.{◌≡◌, ℕ, zero, suc, ◌<◌, ◌≤◌, ◌+◌, ◌++◌, Bool, true, false, ◌&&◌, List, [], ◌∷◌, Option, Some, None, Result, Ok, Err, length, get_or, set, slice_get, refl, sym, ap, ◌∙◌, subst, inl, inr, arith}
use Rattle.std.proofs.lemmas.Bool.{eqb-false, eqb-true}
use Rattle.std.proofs.lemmas.List.{length-append, length-set}
use Rattle.std.proofs.lemmas.Option.{slice_get_read, slice_get_within}
use Rattle.std.specs.BTreeMap.{BTreeMap, is_at}
use Rattle.std.specs.Map.{lookup}
use Rattle.std.specs.Ordering.{nat_cmp}
use Rattle.std.specs.Prelude.{◌⊎◌, IsSome, OnErr, OnOk, if◌then◌else◌, nat_eq}
use Rattle.memo_trie.specs.Tree.{AddsBranch, AddsTo, AsksAtMost, Ends, Grows, IsAlike, IsOnlyBranch, IsSameFork, IsTree, Leads, Reaches, Stays, Turn, branch_of, key_at, key_in, leaf_at, leaf_in, next_at, next_in}
use Rattle.memo_trie.specs.declared.fork.Fork.{Fork}
use Rattle.memo_trie.specs.declared.node.Node.{Node}
use Rattle.memo_trie.specs.declared.node.Node.TheVariants.{Ask, Leaf, Nothing}
use Rattle.memo_trie.proofs.Ways.{reached_once}

-- ---- lists

same_in : {A : Type 0} (a b : A) → Some a ≡ Some b → a ≡ b
same_in a b h = cc

apart_from : (a b : ℕ) → (a ≡ b → ⊥) → nat_eq a b ≡ false
apart_from a b h = by (nat_eq a b) refl where
  by : (t : Bool) → nat_eq a b ≡ t → nat_eq a b ≡ false
  by true e = absurd (h (eqb-true a b e))
  by false e = e

get_other : {A : Type 0} (xs : List A) (i j : ℕ) (y : A) → nat_eq j i ≡ false → slice_get (set xs i y) j ≡ slice_get xs j
get_other [] i j y apart = refl
get_other (x ∷ xs) zero zero y apart = absurd (eqb-false 0 0 apart refl)
get_other (x ∷ xs) zero (suc j) y apart = refl
get_other (x ∷ xs) (suc i) zero y apart = refl
get_other (x ∷ xs) (suc i) (suc j) y apart = get_other xs i j y (apart_from j i (λ e. eqb-false (suc j) (suc i) apart (ap suc e)))

pub get_set : {A : Type 0} (xs : List A) (i : ℕ) (x : A) → i < length xs → slice_get (set xs i x) i ≡ Some x
get_set [] i x below = absurd (omega (arith, below))
get_set (y ∷ ys) zero x below = refl
get_set (y ∷ ys) (suc i) x below = get_set ys i x (omega (arith, below))

pub get_more : {A : Type 0} (xs more : List A) (k : ℕ) (x : A) → slice_get xs k ≡ Some x → slice_get (xs ++ more) k ≡ Some x
get_more [] more k x at = absurd (cc)
get_more (y ∷ xs) more zero x at = at
get_more (y ∷ xs) more (suc k) x at = get_more xs more k x at

get_last : {A : Type 0} (xs : List A) (y : A) → slice_get (xs ++ y ∷ []) (length xs) ≡ Some y
get_last [] y = refl
get_last (x ∷ xs) y = get_last xs y

module _ {K L : Type 0} where
  -- what stands nowhere asks nothing
  pub asks_there : (o : Option (Node K L)) (v m : ℕ) → next_in o v ≡ Some m → (k : K) × (key_in o ≡ Some k)
  asks_there (Some (Ask f)) v m next = (f.key, refl)
  asks_there (Some (Leaf l)) v m next = absurd (cc)
  asks_there (Some Nothing) v m next = absurd (cc)
  asks_there None v m next = absurd (cc)

  -- what there is of a tree with one branch more
  pub record IsGrown (old new : List (Node K L)) (place number below : ℕ) (key : K) : Type 0 where
    pub next : (n v : ℕ) → next_at new n v ≡ (if nat_eq n place && nat_eq v number then Some below else next_at old n v)
    pub key_is : (n : ℕ) → key_at new n ≡ (if nat_eq n place then Some key else key_at old n)
    pub leaf_is : (n : ℕ) → leaf_at new n ≡ leaf_at old n
    pub key_was : (k : K) → key_at old place ≡ Some k → k ≡ key
    pub was_free : next_at old place number ≡ None
    pub place_is : place < length old
    pub below_is : below ≡ length old
    pub longer : length new ≡ length old + 1
    pub nothing : slice_get new below ≡ Some Nothing

  module _ (old new : List (Node K L)) (place number below : ℕ) (key : K) (tree : IsTree old) (grown : IsGrown old new place number below key) where
    below_same : (n v m : ℕ) → next_at new n v ≡ Some m → nat_eq n place ≡ true → nat_eq v number ≡ true → m ≡ below
    below_same n v m is p q = same_in m below (sym is ∙ grown.next n v ∙ ap (λ b. if b && nat_eq v number then Some below else next_at old n v) p ∙ ap (λ b. if b then Some below else next_at old n v) q)

    -- a place that isn't the new one is reached from where it was reached before
    next_at_most : (n v m : ℕ) → next_at new n v ≡ Some m → (next_at old n v ≡ Some m) ⊎ ((n ≡ place) × ((v ≡ number) × (m ≡ below)))
    next_at_most n v m is = by (nat_eq n place) (nat_eq v number) refl refl where
      by : (p q : Bool) → nat_eq n place ≡ p → nat_eq v number ≡ q → (next_at old n v ≡ Some m) ⊎ ((n ≡ place) × ((v ≡ number) × (m ≡ below)))
      by true true p q = inr (eqb-true n place p, (eqb-true v number q, below_same n v m is p q))
      by true false p q = inl (cc (is, grown.next n v, p, q))
      by false q p r = inl (cc (is, grown.next n v, p))

    -- where a branch was before, it is
    next_stays : (n v m : ℕ) → next_at old n v ≡ Some m → next_at new n v ≡ Some m
    next_stays n v m is = by (nat_eq n place) (nat_eq v number) refl refl where
      by : (p q : Bool) → nat_eq n place ≡ p → nat_eq v number ≡ q → next_at new n v ≡ Some m
      by true true p q =
          let here : n ≡ place = eqb-true n place p in
          let same : v ≡ number = eqb-true v number q in
          absurd (cc (is, here, same, grown.was_free))
      by true false p q = cc (is, grown.next n v, p, q)
      by false q p r = cc (is, grown.next n v, p)

    pub grown_tree : IsTree new
    grown_tree = record { rises = rising; single = singly } where
      rising : (n v m : ℕ) → next_at new n v ≡ Some m → (n < m) × (m < length new)
      rising n v m is = by (next_at_most n v m is) where
        by : (next_at old n v ≡ Some m) ⊎ ((n ≡ place) × ((v ≡ number) × (m ≡ below))) → (n < m) × (m < length new)
        by (inl before) = let h = tree.rises n v m before in (h.0, omega (arith, h.1, grown.longer))
        by (inr this) = (omega (arith, this.0, this.1.1, grown.place_is, grown.below_is), omega (arith, this.1.1, grown.below_is, grown.longer))

      apart : (n v : ℕ) → next_at old n v ≡ Some below → ⊥
      apart n v is = let h = tree.rises n v below is in omega (arith, h.1, grown.below_is)

      singly : (a b v w m : ℕ) → next_at new a v ≡ Some m → next_at new b w ≡ Some m → (a ≡ b) × (v ≡ w)
      singly a b v w m first second = by (next_at_most a v m first) (next_at_most b w m second) where
        by : (next_at old a v ≡ Some m) ⊎ ((a ≡ place) × ((v ≡ number) × (m ≡ below))) → (next_at old b w ≡ Some m) ⊎ ((b ≡ place) × ((w ≡ number) × (m ≡ below))) → (a ≡ b) × (v ≡ w)
        by (inl one) (inl two) = tree.single a b v w m one two
        by (inl one) (inr two) = absurd (apart a v (one ∙ ap (λ x. Some x) two.1.1))
        by (inr one) (inl two) = absurd (apart b w (two ∙ ap (λ x. Some x) one.1.1))
        by (inr one) (inr two) = (one.0 ∙ sym two.0, one.1.0 ∙ sym two.1.0)

    -- a question that was asked is asked
    key_stays : (n : ℕ) (k : K) → key_at old n ≡ Some k → key_at new n ≡ Some k
    key_stays n k is = by (nat_eq n place) refl where
      by : (p : Bool) → nat_eq n place ≡ p → key_at new n ≡ Some k
      by true p =
          let here : n ≡ place = eqb-true n place p in
          let same : k ≡ key = grown.key_was k (ap (key_at old) (sym here) ∙ is) in
          cc (grown.key_is n, p, same)
      by false p = cc (grown.key_is n, p, is)

    -- and a question that has a branch was asked
    key_before : (n v m : ℕ) (k : K) → next_at old n v ≡ Some m → key_at new n ≡ Some k → key_at old n ≡ Some k
    key_before n v m k next is = by (asks_there (slice_get old n) v m next) where
      by : (j : K) × (key_at old n ≡ Some j) → key_at old n ≡ Some k
      by there = there.1 ∙ sym (key_stays n there.0 there.1) ∙ is

    reaches_stay : (n : ℕ) (way : List (Turn K)) → Reaches old n way → Reaches new n way
    reaches_stay n [] there = there
    reaches_stay n (turn ∷ before) there =
        (there.0, (key_stays there.0 turn.key there.1.0, (next_stays there.0 turn.number n there.1.1.0, reaches_stay there.0 before there.1.1.1)))

    reaches_before : (n : ℕ) (way : List (Turn K)) → n < below → Reaches new n way → Reaches old n way
    reaches_before n [] lt there = there
    reaches_before n (turn ∷ before) lt there = by (next_at_most there.0 turn.number n there.1.1.0) (λ sooner. reaches_before there.0 before sooner there.1.1.1) where
      by : (next_at old there.0 turn.number ≡ Some n) ⊎ ((there.0 ≡ place) × ((turn.number ≡ number) × (n ≡ below))) → (there.0 < below → Reaches old there.0 before) → Reaches old n (turn ∷ before)
      by (inl next) earlier =
          let rises = tree.rises there.0 turn.number n next in
          (there.0, (key_before there.0 turn.number n turn.key next there.1.0, (next, earlier (omega (arith, rises.0, lt)))))
      by (inr this) earlier = absurd (omega (arith, this.1.1, lt))

    leaf_within : (n : ℕ) (l : L) → leaf_at old n ≡ Some l → n < below
    leaf_within n l is = by (slice_get old n) refl where
      by : (o : Option (Node K L)) → slice_get old n ≡ o → n < below
      by (Some node) there = omega (arith, grown.below_is, slice_get_within old n node there)
      by None none = absurd (cc (ap leaf_in none, is))

    grown_asks : AsksAtMost key old new
    grown_asks n k is = by (nat_eq n place) refl where
      by : (p : Bool) → nat_eq n place ≡ p → (key_at old n ≡ Some k) ⊎ (k ≡ key)
      by true p = inr (same_in k key (sym is ∙ grown.key_is n ∙ ap (λ b. if b then Some key else key_at old n) p))
      by false p = inl (cc (grown.key_is n, p, is))

    next_here : next_at new place number ≡ Some below
    next_here = by (nat_eq place place) (nat_eq number number) refl refl where
      by : (p q : Bool) → nat_eq place place ≡ p → nat_eq number number ≡ q → next_at new place number ≡ Some below
      by true true p q = cc (grown.next place number, p, q)
      by false q p r = absurd (eqb-false place place p refl)
      by true false p q = absurd (eqb-false number number q refl)

    key_here : key_at new place ≡ Some key
    key_here = by (nat_eq place place) refl where
      by : (p : Bool) → nat_eq place place ≡ p → key_at new place ≡ Some key
      by true p = cc (grown.key_is place, p)
      by false p = absurd (eqb-false place place p refl)

    pub grows : Grows old new place (record { key = key; number = number }) below
    grows = record {
      leads = λ way leaf. (
        λ led. (led.0, (grown.leaf_is led.0 ∙ led.1.0, reaches_stay led.0 way led.1.1)),
        λ led. (led.0, (sym (grown.leaf_is led.0) ∙ led.1.0, reaches_before led.0 way (leaf_within led.0 leaf (sym (grown.leaf_is led.0) ∙ led.1.0)) led.1.1)),
      );
      asks = grown_asks;
      reaches = λ way there. (place, (key_here, (next_here, reaches_stay place way there)));
      nothing = grown.nothing;
    }

  -- ---- a place more, where nothing stands yet, and another one that has a branch to it

  -- a place more where nothing stands changes no test of what stands somewhere
  same_before : {B : Type 0} (f : Option (Node K L) → B) (nodes : List (Node K L)) (n : ℕ) → f (Some Nothing) ≡ f None → f (slice_get (nodes ++ Nothing ∷ []) n) ≡ f (slice_get nodes n)
  same_before f [] zero none = none
  same_before f [] (suc n) none = refl
  same_before f (x ∷ xs) zero none = refl
  same_before f (x ∷ xs) (suc n) none = same_before f xs n none

  -- a test of what stands at a place and elsewhere, when there is a place more
  test_at : {B : Type 0} (f : Option (Node K L) → B) (nodes new : List (Node K L)) (place n : ℕ) (y : Node K L) → f (Some Nothing) ≡ f None → place < length nodes → new ≡ set (nodes ++ Nothing ∷ []) place y
      → f (slice_get new n) ≡ (if nat_eq n place then f (Some y) else f (slice_get nodes n))
  test_at f nodes new place n y none lt is = by (nat_eq n place) refl where
    long : place < length (nodes ++ Nothing ∷ [])
    long = omega (arith, lt, length-append nodes (Nothing ∷ []))

    by : (p : Bool) → nat_eq n place ≡ p → f (slice_get new n) ≡ (if p then f (Some y) else f (slice_get nodes n))
    by true p =
        let here : n ≡ place = eqb-true n place p in
        ap (λ xs. f (slice_get xs n)) is ∙ ap (λ m. f (slice_get (set (nodes ++ Nothing ∷ []) place y) m)) here ∙ ap f (get_set (nodes ++ Nothing ∷ []) place y long)
    by false p = ap (λ xs. f (slice_get xs n)) is ∙ ap f (get_other (nodes ++ Nothing ∷ []) place n y p) ∙ same_before f nodes n none

  pub is_grown : (old new : List (Node K L)) (place number : ℕ) (key : K) (x y : Node K L) → IsTree old → slice_get old place ≡ Some x → AddsTo x y key number (length old)
      → new ≡ set (old ++ Nothing ∷ []) place y → IsGrown old new place number (length old) key
  is_grown old new place number key x y tree there adds is =
      let lt : place < length old = slice_get_within old place x there in
      record {
        next = λ n v. test_at (λ o. next_in o v) old new place n y refl lt is ∙ joined n v;
        key_is = λ n. test_at key_in old new place n y refl lt is ∙ ap (λ o. if nat_eq n place then o else key_at old n) adds.key_is;
        leaf_is = λ n. test_at leaf_in old new place n y refl lt is ∙ leafless n;
        key_was = λ k h. adds.key_was k (ap key_in (sym there) ∙ h);
        was_free = ap (λ o. next_in o number) there ∙ adds.was_free;
        place_is = lt;
        below_is = refl;
        longer = ap length is ∙ length-set (old ++ Nothing ∷ []) place y ∙ length-append old (Nothing ∷ []);
        nothing = ap (λ xs. slice_get xs (length old)) is ∙ get_other (old ++ Nothing ∷ []) place (length old) y (apart_from (length old) place (λ e. omega (arith, lt, e))) ∙ get_last old Nothing;
      } where
        joined : (n v : ℕ) → (if nat_eq n place then next_in (Some y) v else next_at old n v) ≡ (if nat_eq n place && nat_eq v number then Some (length old) else next_at old n v)
        joined n v = by (nat_eq n place) (nat_eq v number) refl refl where
          by : (p q : Bool) → nat_eq n place ≡ p → nat_eq v number ≡ q → (if p then next_in (Some y) v else next_at old n v) ≡ (if p && q then Some (length old) else next_at old n v)
          by true true p q = adds.branches v ∙ ap (λ b. if b then Some (length old) else next_in (Some x) v) q
          by true false p q =
              let here : n ≡ place = eqb-true n place p in
              adds.branches v ∙ ap (λ b. if b then Some (length old) else next_in (Some x) v) q ∙ ap (λ o. next_in o v) (sym there) ∙ ap (λ m. next_at old m v) (sym here)
          by false q p r = refl

        leafless : (n : ℕ) → (if nat_eq n place then leaf_in (Some y) else leaf_at old n) ≡ leaf_at old n
        leafless n = by (nat_eq n place) refl where
          by : (p : Bool) → nat_eq n place ≡ p → (if p then leaf_in (Some y) else leaf_at old n) ≡ leaf_at old n
          by true p =
              let here : n ≡ place = eqb-true n place p in
              adds.no_leaf ∙ sym (adds.was_none) ∙ ap leaf_in (sym there) ∙ ap (leaf_at old) (sym here)
          by false p = refl

  -- ---- no place asks or leads otherwise

  module _ (old new : List (Node K L)) (key_same : (n : ℕ) → key_at new n ≡ key_at old n) (next_same : (n v : ℕ) → next_at new n v ≡ next_at old n v) where
    reached : (n : ℕ) (way : List (Turn K)) → Reaches old n way → Reaches new n way
    reached n [] h = h
    reached n (turn ∷ before) h = (h.0, (key_same h.0 ∙ h.1.0, (next_same h.0 turn.number ∙ h.1.1.0, reached h.0 before h.1.1.1)))

    was_reached : (n : ℕ) (way : List (Turn K)) → Reaches new n way → Reaches old n way
    was_reached n [] h = h
    was_reached n (turn ∷ before) h = (h.0, (sym (key_same h.0) ∙ h.1.0, (sym (next_same h.0 turn.number) ∙ h.1.1.0, was_reached h.0 before h.1.1.1)))

    tree_stays : length old ≤ length new → IsTree old → IsTree new
    tree_stays longer tree = record {
      rises = λ n v m h. let r = tree.rises n v m (sym (next_same n v) ∙ h) in (r.0, omega (arith, r.1, longer));
      single = λ a b v w m one two. tree.single a b v w m (sym (next_same a v) ∙ one) (sym (next_same b w) ∙ two);
    }

  -- no test tells what stands at places from what stood there
  pub record AreAlike (old new : List (Node K L)) : Type 0 where
    pub alike : (n : ℕ) → IsAlike (slice_get old n) (slice_get new n)
    pub longer : length old ≤ length new

  pub alike_stays : (old new : List (Node K L)) → AreAlike old new → Stays old new
  alike_stays old new are = record {
    leads = λ way leaf. (
      λ led. (led.0, ((are.alike led.0).leaf_is ∙ led.1.0, reached old new key next led.0 way led.1.1)),
      λ led. (led.0, (sym (are.alike led.0).leaf_is ∙ led.1.0, was_reached old new key next led.0 way led.1.1)),
    );
    asks = key;
  } where
    key : (n : ℕ) → key_at new n ≡ key_at old n
    key n = (are.alike n).key_is

    next : (n v : ℕ) → next_at new n v ≡ next_at old n v
    next n v = (are.alike n).next_is v

  pub alike_tree : (old new : List (Node K L)) → AreAlike old new → IsTree old → IsTree new
  alike_tree old new are tree = tree_stays old new (λ n. (are.alike n).key_is) (λ n v. (are.alike n).next_is v) are.longer tree

  alike_itself : (o : Option (Node K L)) → IsAlike o o
  alike_itself o = record { key_is = refl; leaf_is = refl; next_is = λ n. refl }

  -- a place more where nothing stands
  pub alike_more : (nodes : List (Node K L)) → AreAlike nodes (nodes ++ Nothing ∷ [])
  alike_more nodes = record { alike = at nodes; longer = omega (arith, length-append nodes (Nothing ∷ [])) } where
    at : (xs : List (Node K L)) (n : ℕ) → IsAlike (slice_get xs n) (slice_get (xs ++ Nothing ∷ []) n)
    at [] zero = record { key_is = refl; leaf_is = refl; next_is = λ n. refl }
    at [] (suc n) = alike_itself None
    at (x ∷ xs) zero = alike_itself (Some x)
    at (x ∷ xs) (suc n) = at xs n

  pub alike_then : (old mid new : List (Node K L)) → AreAlike old mid → AreAlike mid new → AreAlike old new
  alike_then old mid new first second = record {
    alike = λ n. record {
      key_is = (second.alike n).key_is ∙ (first.alike n).key_is;
      leaf_is = (second.alike n).leaf_is ∙ (first.alike n).leaf_is;
      next_is = λ v. (second.alike n).next_is v ∙ (first.alike n).next_is v;
    };
    longer = omega (arith, first.longer, second.longer);
  }

  -- something alike stands at a place
  pub alike_set : (old : List (Node K L)) (place : ℕ) (x y : Node K L) → slice_get old place ≡ Some x → IsAlike (Some x) (Some y) → AreAlike old (set old place y)
  alike_set old place x y there same = record { alike = λ n. at n (nat_eq n place) refl; longer = omega (arith, length-set old place y) } where
    at : (n : ℕ) (p : Bool) → nat_eq n place ≡ p → IsAlike (slice_get old n) (slice_get (set old place y) n)
    at n true p =
        let here : n ≡ place = eqb-true n place p in
        subst (λ m. IsAlike (slice_get old m) (slice_get (set old place y) m)) (sym here)
        (subst (λ o. IsAlike o (slice_get (set old place y) place)) (sym there) (subst (λ o. IsAlike (Some x) o) (sym (get_set old place y (slice_get_within old place x there))) same))
    at n false p = subst (λ o. IsAlike (slice_get old n) o) (sym (get_other old place n y p)) (alike_itself (slice_get old n))

  -- ---- the end of a way

  ends_at : (old new : List (Node K L)) (place n : ℕ) (leaf : L) → slice_get old place ≡ Some Nothing → new ≡ set old place (Leaf leaf)
      → slice_get new n ≡ (if nat_eq n place then Some (Leaf leaf) else slice_get old n)
  ends_at old new place n leaf there is = by (nat_eq n place) refl where
    by : (p : Bool) → nat_eq n place ≡ p → slice_get new n ≡ (if p then Some (Leaf leaf) else slice_get old n)
    by true p =
        let here : n ≡ place = eqb-true n place p in
        ap (λ xs. slice_get xs n) is ∙ ap (λ m. slice_get (set old place (Leaf leaf)) m) here ∙ get_set old place (Leaf leaf) (slice_get_within old place Nothing there)
    by false p = ap (λ xs. slice_get xs n) is ∙ get_other old place n (Leaf leaf) p

  -- a test that tells an end from nothing nowhere tells nothing here
  untold : {B : Type 0} (f : Option (Node K L) → B) (old new : List (Node K L)) (place n : ℕ) (leaf : L) → slice_get old place ≡ Some Nothing → new ≡ set old place (Leaf leaf) → f (Some (Leaf leaf)) ≡ f (Some Nothing)
      → f (slice_get new n) ≡ f (slice_get old n)
  untold f old new place n leaf there is same = ap f (ends_at old new place n leaf there is) ∙ by (nat_eq n place) refl where
    by : (p : Bool) → nat_eq n place ≡ p → f (if p then Some (Leaf leaf) else slice_get old n) ≡ f (slice_get old n)
    by true p =
        let here : n ≡ place = eqb-true n place p in
        same ∙ ap f (sym there) ∙ ap (λ m. f (slice_get old m)) (sym here)
    by false p = refl

  module _ (old new : List (Node K L)) (place : ℕ) (leaf : L) (there : slice_get old place ≡ Some Nothing) (is : new ≡ set old place (Leaf leaf)) where
    key_same : (n : ℕ) → key_at new n ≡ key_at old n
    key_same n = untold key_in old new place n leaf there is refl

    next_same : (n v : ℕ) → next_at new n v ≡ next_at old n v
    next_same n v = untold (λ o. next_in o v) old new place n leaf there is refl

    pub ended_tree : IsTree old → IsTree new
    ended_tree tree = tree_stays old new key_same next_same (omega (arith, ap length is, length-set old place (Leaf leaf))) tree

    pub ends : IsTree old → (way : List (Turn K)) → Reaches old place way → Ends old new way leaf
    ends tree way reaches = record {
      there = (place, (ap leaf_in (ends_at old new place place leaf there is) ∙ here (nat_eq place place) refl, reached old new key_same next_same place way reaches));
      stay = λ w l led. (led.0, (elsewhere led.0 l led.1.0 (nat_eq led.0 place) refl, reached old new key_same next_same led.0 w led.1.1));
      others = λ w l led. other w l led.0 led.1.0 led.1.1 (nat_eq led.0 place) refl;
      asks = key_same;
    } where
      here : (p : Bool) → nat_eq place place ≡ p → leaf_in (if p then Some (Leaf leaf) else slice_get old place) ≡ Some leaf
      here true p = refl
      here false p = absurd (eqb-false place place p refl)

      elsewhere : (n : ℕ) (l : L) → leaf_at old n ≡ Some l → (p : Bool) → nat_eq n place ≡ p → leaf_at new n ≡ Some l
      elsewhere n l h true p =
          let same : n ≡ place = eqb-true n place p in
          absurd (cc (there, same, h))
      elsewhere n l h false p = ap leaf_in (ends_at old new place n leaf there is) ∙ ap (λ b. leaf_in (if b then Some (Leaf leaf) else slice_get old n)) p ∙ h

      other : (w : List (Turn K)) (l : L) (n : ℕ) → leaf_at new n ≡ Some l → Reaches new n w → (p : Bool) → nat_eq n place ≡ p → Leads old w l ⊎ ((w ≡ way) × (l ≡ leaf))
      other w l n h led true p =
          let same : n ≡ place = eqb-true n place p in
          let end : Some l ≡ Some leaf = sym h ∙ ap leaf_in (ends_at old new place n leaf there is) ∙ ap (λ b. leaf_in (if b then Some (Leaf leaf) else slice_get old n)) p in
          inr (reached_once old tree place w way (subst (λ m. Reaches old m w) same (was_reached old new key_same next_same n w led)) reaches, cc end)
      other w l n h led false p =
          inl (n, (sym (ap leaf_in (ends_at old new place n leaf there is) ∙ ap (λ b. leaf_in (if b then Some (Leaf leaf) else slice_get old n)) p) ∙ h, was_reached old new key_same next_same n w led))

  -- ---- no place

  pub empty_tree : (nodes : List (Node K L)) → nodes ≡ [] → IsTree nodes
  empty_tree nodes is = subst IsTree (sym is) (record { rises = λ n v m h. absurd (cc); single = λ a b v w m one two. absurd (cc) })

  pub as_before : (old new : List (Node K L)) → new ≡ old → Stays old new
  as_before old new is = subst (Stays old) (sym is) (record { leads = λ way leaf. (λ led. led, λ led. led); asks = λ n. refl })

  pub begun : (old new : List (Node K L)) → new ≡ old ++ Nothing ∷ [] → Stays old new
  begun old new is = subst (Stays old) (sym is) (alike_stays old (old ++ Nothing ∷ []) (alike_more old))

  pub begun_tree : (old new : List (Node K L)) → IsTree old → new ≡ old ++ Nothing ∷ [] → IsTree new
  begun_tree old new tree is = subst IsTree (sym is) (alike_tree old (old ++ Nothing ∷ []) (alike_more old) tree)

  -- ---- what is written to a place

  pub asks_first : (f : Fork K) (key : K) (number below : ℕ) → f.key ≡ key → IsOnlyBranch f number below → AddsTo {K = K} {L = L} Nothing (Ask f) key number below
  asks_first f key number below is only = record {
    key_is = ap (λ k. Some k) is;
    key_was = λ k h. absurd (cc);
    no_leaf = refl;
    was_none = refl;
    was_free = refl;
    branches = only;
  }

  pub asks_more : (old new : Fork K) (key : K) (number below : ℕ) → old.key ≡ key → branch_of old number ≡ None → AddsBranch old new number below → AddsTo {K = K} {L = L} (Ask old) (Ask new) key number below
  asks_more old new key number below is free adds = record {
    key_is = ap (λ k. Some k) (adds.0 ∙ is);
    key_was = λ k h. same_in k key (sym h ∙ ap (λ x. Some x) is);
    no_leaf = refl;
    was_none = refl;
    was_free = free;
    branches = adds.1;
  }

  pub same_fork : (old new : Fork K) → IsSameFork old new → IsAlike {K = K} {L = L} (Some (Ask old)) (Some (Ask new))
  same_fork old new same = record { key_is = ap (λ k. Some k) same.0; leaf_is = refl; next_is = same.1 }

  -- what is there after one place more and a branch to it
  pub grows_by : (old new : List (Node K L)) (place number : ℕ) (key : K) (x y : Node K L) → IsTree old → slice_get old place ≡ Some x → AddsTo x y key number (length old)
      → new ≡ set (old ++ Nothing ∷ []) place y → IsTree new × Grows old new place (record { key = key; number = number }) (length old)
  grows_by old new place number key x y tree there adds is =
      let grown = is_grown old new place number key x y tree there adds is in
      (grown_tree old new place number (length old) key tree grown, grows old new place number (length old) key tree grown)

  -- the same where no branch was added
  pub stays_by : (old new : List (Node K L)) (place : ℕ) (x y : Node K L) → IsTree old → slice_get old place ≡ Some x → IsAlike (Some x) (Some y) → new ≡ set (old ++ Nothing ∷ []) place y → IsTree new × Stays old new
  stays_by old new place x y tree there alike is =
      let longer : List (Node K L) = old ++ Nothing ∷ [] in
      let at : slice_get longer place ≡ Some x = get_more old (Nothing ∷ []) place x there in
      let are : AreAlike old (set longer place y) = alike_then old longer (set longer place y) (alike_more old) (alike_set longer place x y at alike) in
      (subst IsTree (sym is) (alike_tree old (set longer place y) are tree), subst (Stays old) (sym is) (alike_stays old (set longer place y) are))

-- ---- as functions leave them

pub on_err : {T E P : Type 0} (r : Result T E) → P → OnErr r P
on_err (Ok x) p = tt
on_err (Err e) p = p

some_there : {A : Type 0} (o : Option A) → IsSome o → (x : A) × (o ≡ Some x)
some_there (Some x) h = (x, refl)
some_there None h = absurd (cc)

get_fewer : {A : Type 0} (xs more : List A) (k : ℕ) (x : A) → k < length xs → slice_get (xs ++ more) k ≡ Some x → slice_get xs k ≡ Some x
get_fewer [] more k x below at = absurd (omega (arith, below))
get_fewer (y ∷ xs) more zero x below at = at
get_fewer (y ∷ xs) more (suc k) x below at = get_fewer xs more k x (omega (arith, below)) at

pub same_others : {K : Type 0} (f : Fork K) (others : BTreeMap ℕ ℕ) → others.entries ≡ f.others.entries → IsSameFork f (record f { others = others })
same_others f others is = (refl, λ n. ap (λ es. if nat_eq n f.number then Some f.below else lookup (is_at (nat_cmp n)) es) is)

module _ {K L : Type 0} where
  -- a place at which a question stands
  pub key_within : (nodes : List (Node K L)) (place : ℕ) → IsSome (key_at nodes place) → place < length nodes
  key_within nodes place some = by (slice_get nodes place) refl where
    by : (o : Option (Node K L)) → slice_get nodes place ≡ o → place < length nodes
    by (Some x) at = slice_get_within nodes place x at
    by None at = absurd (cc (some, at))

  -- what is read at a place stood there before one more was made
  pub stood : (old items : List (Node K L)) (place : ℕ) (x : Node K L) → items ≡ old ++ Nothing ∷ [] → place < length old → x ≡ get_or items place x → slice_get old place ≡ Some x
  stood old items place x more lt at =
      let long : place < length items = omega (arith, lt, ap length more, length-append old (Nothing ∷ [])) in
      get_fewer old (Nothing ∷ []) place x lt (ap (λ xs. slice_get xs place) (sym more) ∙ slice_get_read items (length items) place x refl long at)

  module _ (old items : List (Node K L)) (place number below : ℕ) (x y : Node K L) (tree : IsTree old) (more : items ≡ old ++ Nothing ∷ []) (last : below ≡ length old) (there : slice_get old place ≡ Some x) where
    pub asks_then : (key : K) → AddsTo x y key number below → IsTree (set items place y) × Grows old (set items place y) place (record { key = key; number = number }) below
    asks_then key adds =
        subst (λ b. IsTree (set items place y) × Grows old (set items place y) place (record { key = key; number = number }) b) (sym last)
        (grows_by old (set items place y) place number key x y tree there (subst (AddsTo x y key number) last adds) (ap (λ xs. set xs place y) more))

    pub stays_then : IsAlike (Some x) (Some y) → IsTree (set items place y) × Stays old (set items place y)
    stays_then alike = stays_by old (set items place y) place x y tree there alike (ap (λ xs. set xs place y) more)

    -- whether a branch was added or not
    pub tree_then : {E : Type 0} (r : Result (Unit {0}) E) → IsSome (key_at old place) → OnOk r ((key : K) → key_in (Some x) ≡ Some key → AddsTo x y key number below) → OnErr r (IsAlike (Some x) (Some y)) → IsTree (set items place y)
    tree_then (Ok u) some ok err = let key = some_there (key_at old place) some in (asks_then key.0 (ok key.0 (ap key_in (sym there) ∙ key.1))).0
    tree_then (Err e) some ok err = (stays_then err).0
