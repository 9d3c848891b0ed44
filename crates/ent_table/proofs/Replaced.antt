-- What a reference finds once another document stands under a key, or none.
use Rattle.std.proofs.Common.{◌≡◌, ◌≢◌, inl, inr, ℕ, zero, suc, ◌+◌, ◌<◌, Bool, true, false, cond, List, [], ◌∷◌, length, Option, Some, None, is_some, slice_get, slice_set as set, refl, sym, ap, ◌∙◌}
use Rattle.std.specs.Cmp.Lexicographic.{nat_list_cmp_total, slice_cmp}
use Rattle.std.specs.FinMap.{empty, get, get-insert, get-remove, remove, same_map}
use Rattle.std.specs.List.{cons_option, enumerate_from, filter_map}
use Rattle.std.specs.Option.{option_map}
use Rattle.std.specs.Ordering.{eq_by_cmp, is_eq, is_lt, nat_cmp, ordering_reverse}
use Rattle.std.specs.declared.cmp.Ordering.{Ordering}
use Rattle.std.specs.declared.cmp.Ordering.TheVariants.{Less, Equal, Greater}
use Rattle.std.proofs.lemmas.Cmp.{tied_itself}
use Rattle.std.proofs.lemmas.List.{get_or-set_same, set-set}
use Rattle.ent_policy.specs.declared.document.Tree.{Tree}
use Rattle.ent_policy.specs.declared.key.DocKey.{DocKey}
use Rattle.ent_policy.specs.declared.key.Reference.{Reference}
use Rattle.ent_finder.specs.Finding.{found, has_document, is_earlier, most_recent, names}
use Rattle.ent_finder.specs.Slots.{Docs, key_cmp, module_at, with_document, with_document_in}
use Rattle.ent_finder.proofs.Totals.{key_cmp_total}
use Rattle.ent_finder.proofs.Keys.{key_cmp_antisymmetric}
use Rattle.ent_finder.proofs.Latest.{latest, none_named}
use Rattle.ent_finder.proofs.Sorted.{equal}

-- ---- what a module holds afterwards

pub get-with : (m : Docs) (k : DocKey) (o : Option Tree) (q : DocKey) → get (with_document m k o) q ≡ cond (eq_by_cmp key_cmp q k) o (get m q)
get-with m k None q = get-remove key_cmp_total m k q
get-with m k (Some d) q = get-insert key_cmp_total m k d q

get-with_same : (m : Docs) (k : DocKey) (o : Option Tree) → get (with_document m k o) k ≡ o
get-with_same m k o = get-with m k o k ∙ ap (λ r. cond (is_eq r) o (get m k)) (tied_itself key_cmp_total k)

-- nothing is left of what stood under the key
removed : (m : Docs) (k : DocKey) (o : Option Tree) → remove (with_document m k o) k ≡ remove m k
removed m k o = same_map key_cmp_total key_cmp_antisymmetric _ _
    (λ q. get-with (with_document m k o) k None q ∙ ap (cond (eq_by_cmp key_cmp q k) None) (get-with m k o q) ∙ by q (eq_by_cmp key_cmp q k) ∙ sym (get-with m k None q))
  where
    by : (q : DocKey) (b : Bool) → cond b None (cond b o (get m q)) ≡ cond b None (get m q)
    by q true = refl
    by q false = refl

-- ---- without the document under a key

not_both : (j k : DocKey) → is_earlier j k ≡ true → is_earlier k j ≡ true → ⊥
not_both j k h = by (slice_cmp nat_cmp j.version k.version) refl h where
  by : (o : Ordering) → slice_cmp nat_cmp j.version k.version ≡ o → is_lt o ≡ true → is_earlier k j ≡ true → ⊥
  by Less e h g =
      let bad : is_earlier k j ≡ false = ap is_lt (nat_list_cmp_total.antisymm k.version j.version ∙ ap ordering_reverse e) in
      cc
  by Equal e h g = cc
  by Greater e h g = cc

has : (m : Docs) (k : DocKey) (d : Tree) → get m k ≡ Some d → has_document k m ≡ true
has m k d e = ap is_some e

module _ (r : Reference) (key : DocKey) where
  -- another document stays
  stays : (m : Docs) (k : DocKey) (d : Tree) → get m k ≡ Some d → Some d ≢ get m key → get (remove m key) k ≡ Some d
  stays m k d is off = get-with m key None k ∙ by (eq_by_cmp key_cmp k key) refl where
    by : (b : Bool) → eq_by_cmp key_cmp k key ≡ b → cond b None (get m k) ≡ Some d
    by true e = absurd (off (sym is ∙ ap (get m) (key_cmp_antisymmetric k key (equal _ e))))
    by false e = is

  -- what is left was there
  was : (m : Docs) (k : DocKey) (d : Tree) → get (remove m key) k ≡ Some d → get m k ≡ Some d
  was m k d is = by (eq_by_cmp key_cmp k key) (sym (get-with m key None k) ∙ is) where
    by : (b : Bool) → cond b None (get m k) ≡ Some d → get m k ≡ Some d
    by true e = cc
    by false e = e

  none_left : (m : Docs) → most_recent r m ≡ None → most_recent r (remove m key) ≡ None
  none_left m none = by (most_recent r (remove m key)) refl where
    by : (o : Option Tree) → most_recent r (remove m key) ≡ o → o ≡ None
    by None e = refl
    by (Some d) e =
        let l = latest r (remove m key) d e in
        let off : names r l.0 ≡ false = none_named r m none l.0 (has m l.0 d (was m l.0 d l.1.is_held)) in
        let on = l.1.is_named in
        cc

  -- the most recent one stays so, unless it stood there
  most_recent_left : (m : Docs) (d : Tree) → most_recent r m ≡ Some d → Some d ≢ get m key → most_recent r (remove m key) ≡ Some d
  most_recent_left m d is off = by (most_recent r (remove m key)) refl where
    by : (o : Option Tree) → most_recent r (remove m key) ≡ o → o ≡ Some d
    by None e =
        let l = latest r m d is in
        let gone : names r l.0 ≡ false = none_named r (remove m key) e l.0 (has (remove m key) l.0 d (stays m l.0 d l.1.is_held off)) in
        let on = l.1.is_named in
        cc
    by (Some c) e =
        let l = latest r m d is in
        let k = latest r (remove m key) c e in
        let left : get (remove m key) l.0 ≡ Some d = stays m l.0 d l.1.is_held off in
        let here : get m k.0 ≡ Some c = was m k.0 c k.1.is_held in
        elim (l.1.is_latest k.0 (has m k.0 c here) k.1.is_named) [
          | inl same ↦ sym here ∙ ap (get m) same ∙ l.1.is_held
          | inr before ↦ elim (k.1.is_latest l.0 (has (remove m key) l.0 d left) l.1.is_named) [
            | inl same ↦ sym k.1.is_held ∙ ap (get (remove m key)) (sym same) ∙ left
            | inr after ↦ absurd (not_both k.0 l.0 before after)
          ]
        ]

  -- what is found in modules that are counted from n, of which the first finds this, if anything
  abbrev found_first : ℕ → Option Tree → List Docs → Option Tree
  found_first n o ms =
      option_map {T = ℕ × Tree} (λ a. a.1) (slice_get (cons_option (option_map (λ d. (n, d)) o) (filter_map (λ m. option_map (λ d. (m.0, d)) (most_recent r m.1)) (enumerate_from (n + 1) ms))) 0)

  abbrev found_from : ℕ → List Docs → Option Tree
  found_from n ms = option_map {T = ℕ × Tree} (λ a. a.1) (slice_get (filter_map (λ m. option_map (λ d. (m.0, d)) (most_recent r m.1)) (enumerate_from n ms)) 0)

  -- what is found stays so, unless it stood there
  found_left : (n : ℕ) (ms : List Docs) (number : ℕ) → found_from n ms ≢ get (module_at ms number) key → found_from n (with_document_in ms number key None) ≡ found_from n ms
  found_left n [] number off = refl
  found_left n (m ∷ ms) zero off = by (most_recent r m) refl off where
    by : (o : Option Tree) → most_recent r m ≡ o → found_first n o ms ≢ get m key → found_from n (remove m key ∷ ms) ≡ found_first n o ms
    by None is off = ap (λ o. found_first n o ms) (none_left m is)
    by (Some d) is off = ap (λ o. found_first n o ms) (most_recent_left m d is off)
  found_left n (m ∷ ms) (suc number) off = by (most_recent r m) off (found_left (n + 1) ms number) where
    by : (o : Option Tree) → found_first n o ms ≢ get (module_at ms number) key
        → (found_from (n + 1) ms ≢ get (module_at ms number) key → found_from (n + 1) (with_document_in ms number key None) ≡ found_from (n + 1) ms)
        → found_first n o (with_document_in ms number key None) ≡ found_first n o ms
    by None off rest = rest off
    by (Some d) off rest = refl

-- ---- one document is exchanged

module _ (ms : List Docs) (number : ℕ) (key : DocKey) (o : Option Tree) (within : number < length ms) where
  at_number : module_at (with_document_in ms number key o) number ≡ with_document (module_at ms number) key o
  at_number = get_or-set_same ms number (with_document (module_at ms number) key o) empty within

  -- what stands under the key now
  pub there_now : get (module_at (with_document_in ms number key o) number) key ≡ o
  there_now = ap (λ (m : Docs). get m key) at_number ∙ get-with_same (module_at ms number) key o

  without : with_document_in (with_document_in ms number key o) number key None ≡ with_document_in ms number key None
  without = set-set ms number _ _ ∙ ap (λ (m : Docs). set ms number m) (ap (λ (m : Docs). remove m key) at_number ∙ removed (module_at ms number) key o)

  -- a reference that found not what stood there, and finds not what stands there now, finds the same
  pub elsewhere : (r : Reference) → found r ms ≢ get (module_at ms number) key → found r (with_document_in ms number key o) ≢ o → found r ms ≡ found r (with_document_in ms number key o)
  elsewhere r off away =
      sym (found_left r key 0 ms number off) ∙ ap (found r) (sym without)
      ∙ found_left r key 0 (with_document_in ms number key o) number (λ is. away (is ∙ there_now))
