-- What is said of the most recent document in terms of the map, and of the first module that has one.
use Rattle.std.proofs.Common.{◌≡◌, ◌⊎◌, inl, inr, ℕ, zero, suc, ◌+◌, ◌<◌, Bool, true, false, cond, not, ◌||◌, T, List, [], ◌∷◌, length, Option, Some, None, is_some, slice_get, refl, sym, ap, subst, ◌∙◌, arith}
use Rattle.std.specs.Cmp.Lexicographic.{nat_list_cmp_total, slice_cmp}
use Rattle.std.specs.FinMap.{entries, entries_sorted, find as find_key, get, get-entries, is_sorted}
use Rattle.std.specs.FinMap.Entries.{below_all}
use Rattle.std.specs.List.{cons_option, enumerate_from, filter, filter_map, find, list_any}
use Rattle.std.specs.Option.{option_map, option_or}
use Rattle.std.specs.Ordering.{is_eq, is_lt, nat_cmp, ordering_reverse}
use Rattle.std.specs.declared.cmp.Ordering.{Ordering}
use Rattle.std.specs.declared.cmp.Ordering.TheVariants.{Less, Equal, Greater}
use Rattle.std.proofs.lemmas.Cmp.{tied_itself}
use Rattle.std.proofs.lemmas.Option.{same_Some, some_pair_parts}
use Rattle.ent_policy.specs.declared.document.Tree.{Tree}
use Rattle.ent_policy.specs.declared.key.DocKey.{DocKey}
use Rattle.ent_policy.specs.declared.key.Reference.{Reference}
use Rattle.ent_finder.proofs.Boxes.{resolved_from}
use Rattle.ent_finder.proofs.Keys.{key_cmp_antisymmetric}
use Rattle.ent_finder.proofs.Recent.{last, latest_last, versions_in_order}
use Rattle.ent_finder.proofs.Sorted.{equal, first, none_tied, second, unlike}
use Rattle.ent_finder.specs.Finding.{has_document, is_earlier, is_latest, most_recent, named, names, resolved}
use Rattle.ent_finder.specs.Law.{IsMostRecent, IsOfFirst}
use Rattle.ent_finder.specs.Slots.{Docs, key_cmp, module_at}
use Rattle.ent_finder.proofs.Totals.{key_cmp_total}

abbrev Entry : Type 0
Entry = DocKey × Tree

-- an entry that is found behind another
behind : (e x : Entry) (es : List Entry) → T (is_sorted key_cmp (x ∷ es)) → find_key key_cmp e.0 es ≡ Some e.1 → find_key key_cmp e.0 (x ∷ es) ≡ Some e.1
behind e x es s is = by (is_eq (key_cmp e.0 x.0)) refl
  where
    by : (b : Bool) → is_eq (key_cmp e.0 x.0) ≡ b → cond b (Some x.1) (find_key key_cmp e.0 es) ≡ Some e.1
    by true t =
        let none : find_key key_cmp e.0 es ≡ None = none_tied key_cmp_total e.0 x.0 es (equal _ t) (first (below_all key_cmp x.0 es) (is_sorted key_cmp es) s) in
        let bad : Some e.1 ≡ None = sym is ∙ none in
        cc
    by false t = is

abbrev Named : Reference → List Entry → List Entry
Named r es = filter (λ e. names r e.0) es

abbrev IsKeyed : Reference → (Entry → Bool) → Entry → List Entry → Type 0
IsKeyed r p e es = (names r e.0 ≡ true) × (find_key key_cmp e.0 es ≡ Some e.1) × (p e ≡ true)

-- what is found among the entries that a reference names: it is named, it is its key's, and it passes
found_named : (r : Reference) (p : Entry → Bool) (e : Entry) (es : List Entry) → T (is_sorted key_cmp es) → find p (Named r es) ≡ Some e → IsKeyed r p e es
found_named r p e [] s is = cc
found_named r p e (x ∷ es) s is = by (names r x.0) refl is (λ h. later (found_named r p e es (second (below_all key_cmp x.0 es) (is_sorted key_cmp es) s) h))
  where
    later : IsKeyed r p e es → IsKeyed r p e (x ∷ es)
    later k = (k.0, behind e x es s k.1, k.2)

    here : names r x.0 ≡ true → p x ≡ true → x ≡ e → IsKeyed r p e (x ∷ es)
    here n t same =
        let itself : find_key key_cmp x.0 (x ∷ es) ≡ Some x.1 = ap (λ o. cond (is_eq o) (Some x.1) (find_key key_cmp x.0 es)) (tied_itself key_cmp_total x.0) in
        subst (λ (y : Entry). IsKeyed r p y (x ∷ es)) same (n, itself, t)

    among : (b : Bool) → p x ≡ b → names r x.0 ≡ true → cond b (Some x) (find p (Named r es)) ≡ Some e → (find p (Named r es) ≡ Some e → IsKeyed r p e (x ∷ es)) → IsKeyed r p e (x ∷ es)
    among true t n h rest = here n t (same_Some x e h)
    among false t n h rest = rest h

    by : (b : Bool) → names r x.0 ≡ b → find p (cond b (x ∷ Named r es) (Named r es)) ≡ Some e → (find p (Named r es) ≡ Some e → IsKeyed r p e (x ∷ es)) → IsKeyed r p e (x ∷ es)
    by true n h rest = among (p x) refl n h rest
    by false n h rest = rest h

-- a document whose key the reference names is among those
passes : (r : Reference) (p : Entry → Bool) (k : DocKey) (d : Tree) (es : List Entry) → find_key key_cmp k es ≡ Some d → names r k ≡ true → p (k, d) ≡ true → list_any p (Named r es) ≡ true
passes r p k d [] is n t = cc
passes r p k d (x ∷ es) is n t = by (is_eq (key_cmp k x.0)) refl is (λ h. passes r p k d es h n t)
  where
    front : (a : Bool) → p x ≡ true → a ≡ true → list_any p (cond a (x ∷ Named r es) (Named r es)) ≡ true
    front true h e = ap (λ b. b || list_any p (Named r es)) h
    front false h e = cc

    back : (a b : Bool) → list_any p (Named r es) ≡ true → (b || list_any p (Named r es)) ≡ true
    back a true h = refl
    back a false h = h

    more : (a : Bool) → list_any p (Named r es) ≡ true → list_any p (cond a (x ∷ Named r es) (Named r es)) ≡ true
    more true h = back true (p x) h
    more false h = h

    by : (b : Bool) → is_eq (key_cmp k x.0) ≡ b → cond b (Some x.1) (find_key key_cmp k es) ≡ Some d → (find_key key_cmp k es ≡ Some d → list_any p (Named r es) ≡ true) → list_any p (cond (names r x.0) (x ∷ Named r es) (Named r es)) ≡ true
    by true e h rest =
        let key : k ≡ x.0 = key_cmp_antisymmetric k x.0 (equal _ e) in
        let document : x.1 ≡ d = same_Some x.1 d h in
        let same : ◌≡◌ {A = Entry} (k, d) x = (λ i. (key i, sym document i)) in
        front (names r x.0) (ap p (sym same) ∙ t) (ap (names r) (sym key) ∙ n)
    by false e h rest = more (names r x.0) (rest h)

-- a document that is there
there : (docs : Docs) (k : DocKey) → has_document k docs ≡ true → (d : Tree) × (find_key key_cmp k (entries docs) ≡ Some d)
there docs k h = by (get docs k) refl h
  where
    by : (o : Option Tree) → get docs k ≡ o → is_some o ≡ true → (d : Tree) × (find_key key_cmp k (entries docs) ≡ Some d)
    by None e h = cc
    by (Some d) e h = (d, sym (get-entries docs k) ∙ e)

-- of two keys that the reference names, the first is the second or is earlier, unless it is later
same_or_earlier : (r : Reference) (j k : DocKey) → names r j ≡ true → names r k ≡ true → is_earlier k j ≡ false → (j ≡ k) ⊎ (is_earlier j k ≡ true)
same_or_earlier r j k hj hk h = by (slice_cmp nat_cmp j.version k.version) refl
  where
    by : (o : Ordering) → slice_cmp nat_cmp j.version k.version ≡ o → (j ≡ k) ⊎ (is_earlier j k ≡ true)
    by Less e = inr (ap is_lt e)
    by Equal e = inl (key_cmp_antisymmetric j k (versions_in_order r j k hj hk ∙ e))
    by Greater e =
        let bad : false ≡ true = sym h ∙ ap is_lt (nat_list_cmp_total.antisymm k.version j.version ∙ ap ordering_reverse e) in
        cc

pub latest : (r : Reference) (docs : Docs) (d : Tree) → most_recent r docs ≡ Some d → (k : DocKey) × IsMostRecent r docs k d
latest r docs d is = by (find (is_latest (named r docs)) (named r docs)) refl is
  where
    by : (o : Option Entry) → find (is_latest (named r docs)) (named r docs) ≡ o → option_map (λ e. e.1) o ≡ Some d → (k : DocKey) × IsMostRecent r docs k d
    by None e h = cc
    by (Some x) e h =
        let keyed = found_named r (is_latest (named r docs)) x (entries docs) (entries_sorted docs) e in
        let latest_of : (other : DocKey) → has_document other docs ≡ true → names r other ≡ true → (other ≡ x.0) ⊎ (is_earlier other x.0 ≡ true) =
        (λ other held named_too.
        let document = there docs other held in
        same_or_earlier r other x.0 named_too keyed.0 (unlike (is_earlier x.0 other) (λ later.
        ap not (sym (passes r (λ f. is_earlier x.0 f.0) other document.0 (entries docs) document.1 named_too later)) ∙ keyed.2))) in
        (x.0, record { is_held = get-entries docs x.0 ∙ keyed.1 ∙ h; is_named = keyed.0; is_latest = latest_of })

-- nothing is last of an empty list alone
no_last : (es : List Entry) → last es ≡ None → list_any (λ _. true) es ≡ false
no_last [] h = refl
no_last (x ∷ es) h = absurd (is_there (last es) h)
  where
    is_there : (o : Option Entry) → option_or o (Some x) ≡ None → ⊥
    is_there None e = cc
    is_there (Some y) e = cc

pub none_named : (r : Reference) (docs : Docs) → most_recent r docs ≡ None → (k : DocKey) → has_document k docs ≡ true → names r k ≡ false
none_named r docs is k held = unlike (names r k) (λ n.
    let document = there docs k held in
    sym (no_last (named r docs) (sym (latest_last r docs) ∙ none (find (is_latest (named r docs)) (named r docs)) is))
    ∙ passes r (λ _. true) k document.0 (entries docs) document.1 n refl)
  where
    none : (o : Option Entry) → option_map (λ e. e.1) o ≡ None → o ≡ None
    none None h = refl
    none (Some e) h = cc

-- ---- the first module that answers

record IsFound (r : Reference) (n : ℕ) (modules : List Docs) (i : ℕ) (d : Tree) : Type 0 where
  place : ℕ
  counted : i ≡ n + place
  within : place < length modules
  here : most_recent r (module_at modules place) ≡ Some d
  before : (j : ℕ) → j < place → most_recent r (module_at modules j) ≡ None

abbrev answer : Reference → ℕ × Docs → Option (ℕ × Tree)
answer r m = option_map (λ document. (m.0, document)) (most_recent r m.1)

found_from : (r : Reference) (n : ℕ) (modules : List Docs) (i : ℕ) (d : Tree) → resolved_from n r modules ≡ Some (i, d) → IsFound r n modules i d
found_from r n [] i d is = cc
found_from r n (m ∷ ms) i d is = by (most_recent r m) refl is (found_from r (n + 1) ms i d)
  where
    by : (o : Option Tree) → most_recent r m ≡ o → slice_get (cons_option (option_map (λ document. (n, document)) o) (filter_map (answer r) (enumerate_from (n + 1) ms))) 0 ≡ Some (i, d)
        → (resolved_from (n + 1) r ms ≡ Some (i, d) → IsFound r (n + 1) ms i d) → IsFound r n (m ∷ ms) i d
    by None e h rest =
        let f = rest h in
        let first : (j : ℕ) → j < suc f.place → most_recent r (module_at (m ∷ ms) j) ≡ None = (elim [ zero ↦ λ lt. e | suc j ↦ λ lt. f.before j (omega arith) ]) in
        record { place = suc f.place; counted = omega (arith, f.counted); within = omega (arith, f.within); here = f.here; before = first }
    by (Some x) e h rest =
        let parts = some_pair_parts n i x d h in
        record { place = 0; counted = omega (arith, parts.0); within = omega arith; here = e ∙ ap Some parts.1; before = λ j lt. absurd (omega arith) }

pub first_found : (r : Reference) (modules : List Docs) (i : ℕ) (d : Tree) → resolved r modules ≡ Some (i, d) → IsOfFirst r modules i d
first_found r modules i d is =
    let f = found_from r 0 modules i d is in
    let same : f.place ≡ i = omega (arith, f.counted) in
    subst (λ k. IsOfFirst r modules k d) same (record { is_module = f.within; is_most_recent = f.here; is_first = f.before })

none_from : (r : Reference) (n : ℕ) (modules : List Docs) → resolved_from n r modules ≡ None → (i : ℕ) → i < length modules → most_recent r (module_at modules i) ≡ None
none_from r n [] is i lt = absurd (omega arith)
none_from r n (m ∷ ms) is i lt = by (most_recent r m) refl is i lt (none_from r (n + 1) ms)
  where
    by : (o : Option Tree) → most_recent r m ≡ o → slice_get (cons_option (option_map (λ document. (n, document)) o) (filter_map (answer r) (enumerate_from (n + 1) ms))) 0 ≡ None → (i : ℕ) → i < length (m ∷ ms)
        → (resolved_from (n + 1) r ms ≡ None → (j : ℕ) → j < length ms → most_recent r (module_at ms j) ≡ None) → most_recent r (module_at (m ∷ ms) i) ≡ None
    by None e h zero lt rest = e
    by None e h (suc i) lt rest = rest h i (omega arith)
    by (Some x) e h i lt rest = cc

pub none_found : (r : Reference) (modules : List Docs) → resolved r modules ≡ None → (i : ℕ) → i < length modules → most_recent r (module_at modules i) ≡ None
none_found r modules is = none_from r 0 modules is
