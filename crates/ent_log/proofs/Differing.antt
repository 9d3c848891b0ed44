-- Keys in order, each with an old answer, and the changes among them.
use Rattle.std.proofs.Common.{◌≡◌, List, [], ◌∷◌, ◌++◌, Bool, true, false, not, cond, ◌&&◌, ◌||◌, map, get_or}
use Rattle.std.proofs.Common.{Option, Some, None, unwrap_or, arith, refl, sym, ◌∙◌, ap}
use Rattle.std.proofs.lemmas.Cmp.{eq_by_cmp_equiv}
use Rattle.std.proofs.lemmas.List.Elements.{All-cons, All-head, All-tail}
use Rattle.std.proofs.lemmas.List.Folds.{list_any-append}
use Rattle.std.proofs.lemmas.Map.{lookup-none}
use Rattle.std.proofs.lemmas.Map.Entries.{lookup_from_place, none_past_head}
use Rattle.std.proofs.lemmas.Map.Keys.{IsDistinct-from_sorted, sorted_tail}
use Rattle.std.proofs.lemmas.Option.{slice_get-get_or}
use Rattle.std.specs.BTreeMap.{is_at}
use Rattle.std.specs.Cmp.{IsEquivalence, IsTotalOrder, Equal-is}
use Rattle.std.specs.List.{All, AllByRecursion, list_any}
use Rattle.std.specs.List.Sorted.{IsStrictlySortedBy}
use Rattle.std.specs.Map.{keys_of, lookup}
use Rattle.std.specs.Ordering.{is_eq}
use Rattle.std.specs.declared.cmp.Ordering.{Ordering}
use Rattle.std.specs.declared.cmp.Ordering.TheVariants.{Less}
use Rattle.ent_log.specs.Difference.{HasAnswers, IsDifference, Respects, change_at, changes_among, same_optional}
use Rattle.ent_log.specs.declared.change.LoggedChange.{LoggedChange}

abbrev change_of : {K A : Type 0} → K → Option A → Option A → LoggedChange K A
change_of k before after = record { key = k; before = before; after = after }

-- a key is that of a change among some
abbrev has_change : {K A : Type 0} → (K → K → Ordering) → List (LoggedChange K A) → K → Bool
has_change cmp changes k = list_any (λ c. is_eq (cmp k c.key)) changes

-- ---- they ascend

-- what is below each key is below the key of each change
pub below-changes : {K A : Type 0} (cmp : K → K → Ordering) (eq : A → A → Bool) (now : K → Option A) (k : K) (es : List (K × Option A))
    → AllByRecursion (λ y. cmp k y ≡ Less) (keys_of es) → AllByRecursion (λ y. cmp k y ≡ Less) (map (λ c. c.key) (changes_among eq now es))
below-changes cmp eq now k [] h = h
below-changes cmp eq now k (e ∷ es) h =
    elim (same_optional eq e.1 (now e.0)) as (λ b.
    AllByRecursion (λ y. cmp k y ≡ Less) (map (λ c. c.key) (cond b [] (change_of e.0 e.1 (now e.0) ∷ []) ++ changes_among eq now es))) [
      | true ↦ below-changes cmp eq now k es h.1
      | false ↦ (h.0, below-changes cmp eq now k es h.1)
    ]

pub changes-ascend : {K A : Type 0} (cmp : K → K → Ordering) (eq : A → A → Bool) (now : K → Option A) (es : List (K × Option A))
    → IsStrictlySortedBy cmp (keys_of es) → IsStrictlySortedBy cmp (map (λ c. c.key) (changes_among eq now es))
unfolding IsStrictlySortedBy
changes-ascend cmp eq now [] h = h
changes-ascend cmp eq now (e ∷ es) h =
    elim (same_optional eq e.1 (now e.0)) as (λ b.
    IsStrictlySortedBy cmp (map (λ c. c.key) (cond b [] (change_of e.0 e.1 (now e.0) ∷ []) ++ changes_among eq now es))) [
      | true ↦ changes-ascend cmp eq now es h.1
      | false ↦ (below-changes cmp eq now e.0 es h.0, changes-ascend cmp eq now es h.1)
    ]

-- ---- their answers

-- a table that has the old answers, and elsewhere the present ones, has the old answer of each key
pub entries-before : {K A : Type 0} {cmp : K → K → Ordering} (total : IsTotalOrder cmp) (before now : K → Option A) (es : List (K × Option A))
    → IsStrictlySortedBy cmp (keys_of es) → ((k : K) → before k ≡ unwrap_or (lookup (is_at (cmp k)) es) (now k)) → All (λ e. before e.0 ≡ e.1) es
entries-before {K} {A} {cmp} total before now es sorted has = λ i d within.
    let e : K × Option A = get_or es i d in
    let distinct = IsDistinct-from_sorted cmp (keys_of es) sorted in
    has e.0 ∙ ap (λ o. unwrap_or o (now e.0)) (lookup_from_place (eq_by_cmp_equiv total) es i e.0 e.1 distinct (slice_get-get_or es i d within))

pub changes-have : {K A : Type 0} (eq : A → A → Bool) (before now : K → Option A) (es : List (K × Option A))
    → All (λ e. before e.0 ≡ e.1) es → All (HasAnswers before now) (changes_among eq now es)
changes-have eq before now [] h = λ i d within. absurd (omega arith)
changes-have {K} {A} eq before now (e ∷ es) h =
    let here = All-head (λ x. before x.0 ≡ x.1) e es h in
    let rest = changes-have eq before now es (All-tail (λ x. before x.0 ≡ x.1) e es h) in
    elim (same_optional eq e.1 (now e.0)) as (λ b.
    All (HasAnswers before now) (cond b [] (change_of e.0 e.1 (now e.0) ∷ []) ++ changes_among eq now es)) [
      | true ↦ rest
      | false ↦ All-cons (HasAnswers before now) (change_of e.0 e.1 (now e.0)) (changes_among eq now es) (sym here, refl) rest
    ]

-- ---- they are all, and no others

-- whether an old answer, if there is one, is another than the present one
abbrev pub is_changed : {A : Type 0} → (A → A → Bool) → Option (Option A) → Option A → Bool
is_changed eq None now = false
is_changed eq (Some b) now = not (same_optional eq b now)

-- a key is that of the one change, if there is one
pub any-change_at : {K A : Type 0} (test : K → Bool) (eq : A → A → Bool) (q : K) (b a : Option A)
    → list_any (λ c. test c.key) (change_at eq q b a) ≡ (not (same_optional eq b a) && test q)
any-change_at test eq q b a =
    elim (same_optional eq b a) as (λ s. list_any (λ (c : LoggedChange _ _). test c.key) (cond s [] (change_of q b a ∷ [])) ≡ (not s && test q)) [
      | true ↦ refl
      | false ↦ elim (test q) as (λ t. (t || false) ≡ (true && t)) [ true ↦ refl | false ↦ refl ]
    ]

-- a key has a change where its old answer is another than the present one
pub any-changes : {K A : Type 0} {cmp : K → K → Ordering} (total : IsTotalOrder cmp) (eq : A → A → Bool) (now : K → Option A) → Respects cmp now
    → (k : K) (es : List (K × Option A)) → IsStrictlySortedBy cmp (keys_of es)
    → has_change cmp (changes_among eq now es) k ≡ is_changed eq (lookup (is_at (cmp k)) es) (now k)
any-changes total eq now respects k [] sorted = refl
any-changes {K} {A} {cmp} total eq now respects k (e ∷ es) sorted =
    list_any-append (λ (c : LoggedChange K A). is_eq (cmp k c.key)) (change_at eq e.0 e.1 (now e.0)) (changes_among eq now es)
    ∙ ap (λ t. t || later) (any-change_at (λ q. is_eq (cmp k q)) eq e.0 e.1 (now e.0))
    ∙ by (is_eq (cmp k e.0)) refl (any-changes total eq now respects k es (sorted_tail cmp e.0 (keys_of es) sorted))
  where
    later : Bool
    later = has_change cmp (changes_among eq now es) k

    none : is_eq (cmp k e.0) ≡ true → lookup (is_at (cmp k)) es ≡ None
    none is =
        let distinct = IsDistinct-from_sorted cmp (keys_of (e ∷ es)) sorted in
        lookup-none (is_at (cmp k)) es (none_past_head (eq_by_cmp_equiv total) k e es distinct is)

    by : (b : Bool) → is_eq (cmp k e.0) ≡ b → later ≡ is_changed eq (lookup (is_at (cmp k)) es) (now k)
        → ((not (same_optional eq e.1 (now e.0)) && b) || later) ≡ is_changed eq (cond b (Some e.1) (lookup (is_at (cmp k)) es)) (now k)
    by true is rest =
        let here : now k ≡ now e.0 = respects k e.0 ((Equal-is (cmp k e.0)).0 is) in
        let no_more : later ≡ false = rest ∙ ap (λ o. is_changed eq o (now k)) (none is) in
        ap (λ t. (not (same_optional eq e.1 (now e.0)) && true) || t) no_more
        ∙ (elim (same_optional eq e.1 (now e.0)) as (λ s. ((not s && true) || false) ≡ not s) [ true ↦ refl | false ↦ refl ])
        ∙ ap (λ a. not (same_optional eq e.1 a)) (sym here)
    by false is rest =
        (elim (same_optional eq e.1 (now e.0)) as (λ s. ((not s && false) || later) ≡ later) [ true ↦ refl | false ↦ refl ]) ∙ rest

-- an answer is no change of itself
pub same_itself : {A : Type 0} {eq : A → A → Bool} → IsEquivalence eq → (x : Option A) → same_optional eq x x ≡ true
same_itself laws None = refl
same_itself laws (Some a) = laws.refl a

pub differs-changed : {A : Type 0} {eq : A → A → Bool} → IsEquivalence eq → (o : Option (Option A)) (now : Option A)
    → is_changed eq o now ≡ not (same_optional eq (unwrap_or o now) now)
differs-changed laws None now = sym (ap not (same_itself laws now))
differs-changed laws (Some b) now = refl

-- ---- they are the difference

-- where a table before has these old answers for the keys, and agrees with the present one on all others
pub changes-difference : {K A : Type 0} {cmp : K → K → Ordering} (total : IsTotalOrder cmp) {eq : A → A → Bool} (laws : IsEquivalence eq)
    → (before now : K → Option A) → Respects cmp now → (es : List (K × Option A)) → IsStrictlySortedBy cmp (keys_of es)
    → ((k : K) → before k ≡ unwrap_or (lookup (is_at (cmp k)) es) (now k)) → IsDifference cmp eq before now (changes_among eq now es)
changes-difference {K} {A} {cmp} total {eq} laws before now respects es sorted has = record {
  exact = λ k.
      any-changes total eq now respects k es sorted
      ∙ differs-changed laws (lookup (is_at (cmp k)) es) (now k)
      ∙ ap (λ b. not (same_optional eq b (now k))) (sym (has k));
  answers = changes-have eq before now es (entries-before total before now es sorted has);
  ascending = changes-ascend cmp eq now es sorted;
}
