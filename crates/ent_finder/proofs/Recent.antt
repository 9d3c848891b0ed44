-- The most recent of the documents that a reference names, among slots in the order of their keys.
use Rattle.std.proofs.Common.{◌≡◌, Bool, true, false, cond, not, ◌&&◌, ◌||◌, T, List, [], ◌∷◌, ◌++◌, Option, Some, None, refl, sym, ap, ◌∙◌}
use Rattle.std.specs.Cmp.{IsStrictWeakOrder}
use Rattle.std.specs.Cmp.Lexicographic.{nat_list_cmp_total, slice_cmp}
use Rattle.std.specs.FinMap.{entries, entries-from_sorted, entries_sorted, is_sorted}
use Rattle.std.specs.FinMap.Entries.{below_all}
use Rattle.std.specs.List.{filter, find, list_all, list_any}
use Rattle.std.specs.Option.{option_map, option_or}
use Rattle.std.specs.Ordering.{is_lt, nat_cmp, ordering_then}
use Rattle.std.specs.declared.cmp.Ordering.{Ordering}
use Rattle.std.specs.declared.cmp.Ordering.TheVariants.{Less, Equal, Greater}
use Rattle.std.proofs.lemmas.Cmp.{tied_itself}
use Rattle.std.proofs.lemmas.List.MinMax.{ranks_by}
use Rattle.ent_policy.specs.Constraints.{meets}
use Rattle.ent_policy.specs.declared.document.Tree.{Tree}
use Rattle.ent_policy.specs.declared.key.DocKey.{DocKey}
use Rattle.ent_policy.specs.declared.key.Reference.{Reference}
use Rattle.ent_finder.proofs.Held.{entries-held, filled}
use Rattle.ent_finder.proofs.Names.{and_first, is_of-decides, name_cmp_total}
use Rattle.ent_finder.proofs.Sorted.{first, is_true, second, unlike}
use Rattle.ent_finder.specs.Entry.{AreSorted, entries_of, slots_of}
use Rattle.ent_finder.specs.Finding.{is_earlier, is_latest, is_of, most_recent, named, names}
use Rattle.ent_finder.specs.proofs_only.Order.{Name, kind_cmp, name_of, name_cmp}
use Rattle.ent_finder.specs.Slots.{Docs, held, key_cmp}
use Rattle.ent_finder.specs.declared.slot.DocSlot.{DocSlot}

abbrev Entry : Type 0
Entry = DocKey × Tree

-- ---- the last of a list that rises is the one than which none is later

abbrev pub last : {X : Type 0} → List X → Option X
last [] = None
last (x ∷ xs) = option_or (last xs) (Some x)

some_last : {X : Type 0} (x : X) (xs : List X) (o : Option X) → option_or (last (x ∷ xs)) o ≡ last (x ∷ xs)
some_last {X} x xs o = by (last xs)
  where
    by : (l : Option X) → option_or (option_or l (Some x)) o ≡ option_or l (Some x)
    by None = refl
    by (Some y) = refl

module _ {X : Type 0} (before : X → X → Bool) (order : IsStrictWeakOrder before) where
  -- each element comes before all later ones
  abbrev pub Rises : List X → Type 0
  Rises [] = Unit {0}
  Rises (x ∷ xs) = (list_all (before x) xs ≡ true) × Rises xs

  not_itself : (x : X) → before x x ≡ false
  not_itself x = unlike (before x x) (λ h. sym (order.one_way x x h) ∙ h)

  -- of each element, those of one list that come after it are there where those of another are
  abbrev Alike : List X → List X → List X → Type 0
  Alike whole xs [] = Unit {0}
  Alike whole xs (y ∷ ys) = (list_any (before y) whole ≡ list_any (before y) xs) × Alike whole xs ys

  alike_itself : (xs ys : List X) → Alike xs xs ys
  alike_itself xs [] = tt
  alike_itself xs (y ∷ ys) = (refl, alike_itself xs ys)

  -- one that comes before all of them makes no difference
  without_first : (x : X) (whole xs ys : List X) → list_all (before x) ys ≡ true → Alike whole (x ∷ xs) ys → Alike whole xs ys
  without_first x whole xs [] h a = tt
  without_first x whole xs (y ∷ ys) h a =
      let back : before y x ≡ false = order.one_way x y (and_first (before x y) (list_all (before x) ys) h) in
      (a.0 ∙ ap (λ b. b || list_any (before y) xs) back, without_first x whole xs ys (and_second' (before x y) (list_all (before x) ys) h) a.1)
    where
      and_second' : (a b : Bool) → (a && b) ≡ true → b ≡ true
      and_second' true b h = h
      and_second' false b h = cc

  find_last_in : (whole xs : List X) → Rises xs → Alike whole xs xs → find (λ x. not (list_any (before x) whole)) xs ≡ last xs
  find_last_in whole [] r a = refl
  find_last_in whole (x ∷ []) r a =
      let none : list_any (before x) whole ≡ false = a.0 ∙ ap (λ b. b || false) (not_itself x) in
      ap (λ b. cond (not b) (Some x) None) none
  find_last_in whole (x ∷ y ∷ ys) r a =
      let later : list_any (before x) whole ≡ true = a.0 ∙ ap (λ b. b || (before x y || list_any (before x) ys)) (not_itself x)
      ∙ ap (λ b. b || list_any (before x) ys) (and_first (before x y) (list_all (before x) ys) r.0) in
      ap (λ b. cond (not b) (Some x) (find (λ x. not (list_any (before x) whole)) (y ∷ ys))) later
      ∙ find_last_in whole (y ∷ ys) r.1 (without_first x whole (y ∷ ys) (y ∷ ys) r.0 a.1) ∙ sym (some_last y ys (Some x))

  pub find_last : (xs : List X) → Rises xs → find (λ x. not (list_any (before x) xs)) xs ≡ last xs
  find_last xs r = find_last_in xs xs r (alike_itself xs xs)

-- ---- the entries that a reference names rise by their versions

pub by_version : IsStrictWeakOrder (λ (x y : Entry). is_earlier x.0 y.0)
by_version = ranks_by nat_list_cmp_total (λ (e : Entry). e.0.version)

by_name : (a : Ordering) (b c : Ordering) → ordering_then a b ≡ Equal → ordering_then a (ordering_then b c) ≡ c
by_name Less b c h = cc
by_name Equal b c h = ap (λ o. ordering_then o c) h
by_name Greater b c h = cc

-- the versions of two keys that a reference names are in the order of the keys
pub versions_in_order : (r : Reference) (j k : DocKey) → names r j ≡ true → names r k ≡ true → key_cmp j k ≡ slice_cmp nat_cmp j.version k.version
versions_in_order r j k hj hk =
    let p = (is_of-decides r j).0 (and_first (is_of r j) _ hj) in
    let q = (is_of-decides r k).0 (and_first (is_of r k) _ hk) in
    let same : ◌≡◌ {A = Name} (name_of j) (name_of k) = (λ t. ((sym p.0 ∙ q.0) t, (sym p.1 ∙ q.1) t)) in
    by_name (kind_cmp j.kind k.kind) (slice_cmp nat_cmp j.id k.id) (slice_cmp nat_cmp j.version k.version)
    (ap (λ n. name_cmp n (name_of k)) same ∙ tied_itself name_cmp_total (name_of k))

all_later : (r : Reference) (e : Entry) (es : List Entry) → names r e.0 ≡ true → T (below_all key_cmp e.0 es) → list_all (λ f. is_earlier e.0 f.0) (filter (λ f. names r f.0) es) ≡ true
all_later r e [] n h = refl
all_later r e (f ∷ es) n h = by (names r f.0) refl (all_later r e es n (second (is_lt (key_cmp e.0 f.0)) (below_all key_cmp e.0 es) h))
  where
    by : (b : Bool) → names r f.0 ≡ b → list_all (λ g. is_earlier e.0 g.0) (filter (λ g. names r g.0) es) ≡ true → list_all (λ g. is_earlier e.0 g.0) (cond b (f ∷ filter (λ g. names r g.0) es) (filter (λ g. names r g.0) es)) ≡ true
    by true t rest =
        let here : is_earlier e.0 f.0 ≡ true = ap is_lt (sym (versions_in_order r e.0 f.0 n t)) ∙ is_true _ (first (is_lt (key_cmp e.0 f.0)) (below_all key_cmp e.0 es) h) in
        ap (λ b. b && list_all (λ (g : Entry). is_earlier e.0 g.0) (filter (λ g. names r g.0) es)) here ∙ rest
    by false t rest = rest

named_rise : (r : Reference) (es : List Entry) → T (is_sorted key_cmp es) → Rises (λ x y. is_earlier x.0 y.0) by_version (filter (λ e. names r e.0) es)
named_rise r [] s = tt
named_rise r (e ∷ es) s = by (names r e.0) refl (named_rise r es (second (below_all key_cmp e.0 es) (is_sorted key_cmp es) s))
  where
    by : (b : Bool) → names r e.0 ≡ b → Rises (λ x y. is_earlier x.0 y.0) by_version (filter (λ f. names r f.0) es) → Rises (λ x y. is_earlier x.0 y.0) by_version (cond b (e ∷ filter (λ f. names r f.0) es) (filter (λ f. names r f.0) es))
    by true t rest = (all_later r e es t (first (below_all key_cmp e.0 es) (is_sorted key_cmp es) s), rest)
    by false t rest = rest

-- the one than which none is later is the last
pub latest_last : (r : Reference) (docs : Docs) → find (is_latest (named r docs)) (named r docs) ≡ last (named r docs)
latest_last r docs = find_last (λ x y. is_earlier x.0 y.0) by_version (named r docs) (named_rise r (entries docs) (entries_sorted docs))

-- ---- the same of slots

-- the document of a slot, if its version meets the constraints
abbrev pub accepted : Reference → DocSlot → Option Tree
accepted r s = cond (meets r.constraints s.key.version) s.document None

-- of several slots, the document of the last one that has such a document
abbrev pub last_accepted : Reference → List DocSlot → Option Tree
last_accepted r [] = None
last_accepted r (s ∷ ss) = option_or (last_accepted r ss) (accepted r s)

or_none : (o : Option Tree) → option_or o None ≡ o
or_none None = refl
or_none (Some d) = refl

or_assoc : (a b c : Option Tree) → option_or (option_or a b) c ≡ option_or a (option_or b c)
or_assoc None b c = refl
or_assoc (Some d) b c = refl

map_or : (a b : Option Entry) → option_map (λ e. e.1) (option_or a b) ≡ option_or (option_map (λ e. e.1) a) (option_map (λ e. e.1) b)
map_or None b = refl
map_or (Some e) b = refl

last_accepted-append : (r : Reference) (ss : List DocSlot) (s : DocSlot) → last_accepted r (ss ++ s ∷ []) ≡ option_or (accepted r s) (last_accepted r ss)
last_accepted-append r [] s = sym (or_none (accepted r s))
last_accepted-append r (x ∷ ss) s = ap (λ o. option_or o (accepted r x)) (last_accepted-append r ss s) ∙ or_assoc (accepted r s) (last_accepted r ss) (accepted r x)

-- the last slot of several answers before the others
pub last_accepted_back : (r : Reference) (ss others : List DocSlot) (s : DocSlot) (o : Option Tree) → ss ≡ others ++ s ∷ [] → o ≡ accepted r s → last_accepted r ss ≡ option_or o (last_accepted r others)
last_accepted_back r ss others s o is e = ap (last_accepted r) is ∙ last_accepted-append r others s ∙ ap (λ a. option_or a (last_accepted r others)) (sym e)

-- the entries that pass, with one more in front if it is there and passes
abbrev in_front : DocKey → Option Tree → Bool → List Entry → List Entry
in_front k None b es = es
in_front k (Some d) b es = cond b ((k, d) ∷ es) es

filter-filled : (r : Reference) (k : DocKey) (o : Option Tree) (es : List (DocKey × Option Tree)) → filter (λ e. names r e.0) (filled ((k, o) ∷ es)) ≡ in_front k o (names r k) (filter (λ e. names r e.0) (filled es))
filter-filled r k None es = refl
filter-filled r k (Some d) es = refl

last-in_front : (k : DocKey) (o : Option Tree) (a b : Bool) (es : List Entry) → option_map (λ e. e.1) (last (in_front k o (a && b) es)) ≡ cond a (option_or (option_map (λ e. e.1) (last es)) (cond b o None)) (option_map (λ e. e.1) (last es))
last-in_front k None true true es = sym (or_none (option_map (λ e. e.1) (last es)))
last-in_front k None true false es = sym (or_none (option_map (λ e. e.1) (last es)))
last-in_front k None false b es = refl
last-in_front k (Some d) true true es = map_or (last es) (Some (k, d))
last-in_front k (Some d) true false es = sym (or_none (option_map (λ e. e.1) (last es)))
last-in_front k (Some d) false b es = refl

last_accepted-cond : (r : Reference) (s : DocSlot) (ss : List DocSlot) (b : Bool) → last_accepted r (cond b (s ∷ ss) ss) ≡ cond b (option_or (last_accepted r ss) (accepted r s)) (last_accepted r ss)
last_accepted-cond r s ss true = refl
last_accepted-cond r s ss false = refl

-- the last document that a reference names is the last accepted one of its kind and id
last_named : (r : Reference) (ss : List DocSlot) → option_map (λ e. e.1) (last (filter (λ e. names r e.0) (filled (entries_of ss)))) ≡ last_accepted r (filter (λ s. is_of r s.key) ss)
last_named r [] = refl
last_named r (s ∷ ss) =
    ap (λ es. option_map (λ (e : Entry). e.1) (last es)) (filter-filled r s.key s.document (entries_of ss))
    ∙ last-in_front s.key s.document (is_of r s.key) (meets r.constraints s.key.version) (filter (λ e. names r e.0) (filled (entries_of ss)))
    ∙ ap (λ o. cond (is_of r s.key) (option_or o (accepted r s)) o) (last_named r ss)
    ∙ sym (last_accepted-cond r s (filter (λ x. is_of r x.key) ss) (is_of r s.key))

pub most_recent-slots : (r : Reference) (ss : List DocSlot) → AreSorted ss → most_recent r (held (slots_of ss)) ≡ last_accepted r (filter (λ s. is_of r s.key) ss)
most_recent-slots r ss sorted =
    ap (option_map (λ (e : Entry). e.1)) (latest_last r (held (slots_of ss)))
    ∙ ap (λ es. option_map (λ (e : Entry). e.1) (last (filter (λ (e : Entry). names r e.0) es))) (entries-held (slots_of ss) ∙ ap filled (entries-from_sorted key_cmp (entries_of ss) sorted))
    ∙ last_named r ss
