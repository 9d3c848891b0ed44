-- Cells that stand in a group or under a name, after one joins or leaves.
use Rattle.std.proofs.Common.{◌≡◌, ℕ, ◌+◌, ◌<◌, Bool, true, false, List, [], get_or, length, take, Option, Some, None, cond, nat_eq, refl, sym, ap, subst, ◌∙◌}
use Rattle.std.specs.Prelude.{◌||◌, ◌&&◌, IsTrue}
use Rattle.std.specs.Bool.{OnFalse, OnTrue}
use Rattle.std.specs.BTreeMap as tree
use Rattle.std.specs.BTreeMap.{BTreeMap}
use Rattle.std.specs.Cmp.{nat_eq_equiv}
use Rattle.std.specs.Cmp.Lexicographic.{slice_cmp}
use Rattle.std.specs.Option.{option_map_or}
use Rattle.std.specs.Ordering.{is_eq, nat_cmp}
use Rattle.std.proofs.lemmas.Bool.Decides.{Decides-eqb}
use Rattle.std.proofs.lemmas.List.Folds.{list_any_more}
use Rattle.std.proofs.lemmas.Map.Text.{is_eq-slice_cmp}
use Rattle.std.proofs.lemmas.Slice.Eq.{bytes_eq-Decides}
use Rattle.slab.specs.Slab.{SameValues, Slab, Updates, get}
use Rattle.ent_index.specs.declared.group.Group.{Group}
use Rattle.ent_index.specs.declared.groups.Groups.{Groups}
use Rattle.ent_index.specs.declared.names.NameCells.{NameCells}
use Rattle.ent_index.specs.Groups.{KeepsNamesBut, StayInBut, StayUnderBut, holds_in, is_among, is_member, is_pair, numbers_in}
use Rattle.ent_index.specs.proofs_only.Grouped.{IsEmptied, Joins, Leaves}
use Rattle.ent_index.specs.proofs_only.Groups.{HasAll, HasMore}

-- ---- cells among others

pub has_all : (old new cells : List ℕ) → ((c : ℕ) → is_member new c ≡ (is_member old c || is_member cells c)) → HasAll cells new
has_all old new cells is c h = is c ∙ ap (λ b. is_member old c || b) h ∙ or_true (is_member old c) where
  or_true : (b : Bool) → (b || true) ≡ true
  or_true true = refl
  or_true false = refl

pub has_more : (old new cells : List ℕ) → ((c : ℕ) → is_member new c ≡ (is_member old c || is_member cells c)) → HasMore old new
has_more old new cells is c h = is c ∙ ap (λ b. b || is_member cells c) h

pub has_same : (cells : List ℕ) → HasMore cells cells
has_same cells c h = h

-- ---- numbers that are kept as a roll too

pub numbered_more : (numbers : List ℕ) (i n : ℕ) (old new : List ℕ) → i < length numbers → n ≡ get_or numbers i n → ((m : ℕ) → is_member old m ≡ is_among (take i numbers) m)
    → ((m : ℕ) → is_member new m ≡ (is_member old m || nat_eq m n)) → (m : ℕ) → is_member new m ≡ is_among (take (i + 1) numbers) m
numbered_more numbers i n old new lt at so_far put m =
    put m ∙ ap (λ b. b || nat_eq m n) (so_far m) ∙ ap (λ b. is_among (take i numbers) m || b) (nat_eq_equiv.symm m n) ∙ ap (λ x. is_among (take i numbers) m || nat_eq x m) at
    ∙ sym (list_any_more (λ x. nat_eq x m) numbers i n lt)

-- ---- names

abbrev pub under_in : BTreeMap (List ℕ) (List ℕ) → List ℕ → ℕ → Bool
under_in rolls name c = option_map_or (λ x. is_member x c) (tree.get (slice_cmp nat_cmp) rolls name) false

abbrev pub has_in : Option (List ℕ) → ℕ → Bool
has_in o c = option_map_or (λ x. is_member x c) o false

same_name : (a b : List ℕ) → is_eq (slice_cmp nat_cmp a b) ≡ true → a ≡ b
same_name a b h = (bytes_eq-Decides a b).0 (sym (is_eq-slice_cmp a b) ∙ h)

-- a change under one name keeps what is under the others, and what it keeps under this
pub stay_under : (old new : BTreeMap (List ℕ) (List ℕ)) (name : List ℕ) (w : Option (List ℕ)) (cell : ℕ)
    → ((q : List ℕ) → tree.get (slice_cmp nat_cmp) new q ≡ cond (is_eq (slice_cmp nat_cmp name q)) w (tree.get (slice_cmp nat_cmp) old q))
    → ((c : ℕ) → nat_eq c cell ≡ false → under_in old name c ≡ true → has_in w c ≡ true)
    → (q : List ℕ) (c : ℕ) → nat_eq c cell ≡ false → under_in old q c ≡ true → under_in new q c ≡ true
stay_under old new name w cell changed kept q c apart h = by (is_eq (slice_cmp nat_cmp name q)) refl where
  by : (b : Bool) → is_eq (slice_cmp nat_cmp name q) ≡ b → under_in new q c ≡ true
  by true e =
      let same : name ≡ q = same_name name q e in
      ap (λ o. has_in o c) (changed q ∙ ap (λ b. cond b w (tree.get (slice_cmp nat_cmp) old q)) e) ∙ kept c apart (ap (λ n. under_in old n c) same ∙ h)
  by false e = ap (λ o. has_in o c) (changed q ∙ ap (λ b. cond b w (tree.get (slice_cmp nat_cmp) old q)) e) ∙ h

-- the same, of what is lent under a name and has other cells then
pub lent_stay : (old new : BTreeMap (List ℕ) (List ℕ)) (name roll more : List ℕ) (cell : ℕ) → Some roll ≡ tree.get (slice_cmp nat_cmp) old name
    → ((q : List ℕ) → tree.get (slice_cmp nat_cmp) new q ≡ cond (is_eq (slice_cmp nat_cmp name q)) (Some more) (tree.get (slice_cmp nat_cmp) old q))
    → ((c : ℕ) → nat_eq c cell ≡ false → is_member roll c ≡ true → is_member more c ≡ true)
    → (q : List ℕ) (c : ℕ) → nat_eq c cell ≡ false → under_in old q c ≡ true → under_in new q c ≡ true
lent_stay old new name roll more cell at changed kept = stay_under old new name (Some more) cell changed (λ c apart h. kept c apart (ap (λ o. has_in o c) at ∙ h))

-- a name that has no cells gets some, or the cells of a name that has none go
pub empty_stay : (old new : BTreeMap (List ℕ) (List ℕ)) (name : List ℕ) (w : Option (List ℕ)) (cell : ℕ) → ((c : ℕ) → under_in old name c ≡ false)
    → ((q : List ℕ) → tree.get (slice_cmp nat_cmp) new q ≡ cond (is_eq (slice_cmp nat_cmp name q)) w (tree.get (slice_cmp nat_cmp) old q))
    → (q : List ℕ) (c : ℕ) → nat_eq c cell ≡ false → under_in old q c ≡ true → under_in new q c ≡ true
empty_stay old new name w cell none changed = stay_under old new name w cell changed (λ c apart h. nothing c (none c) h) where
  nothing : (c : ℕ) → under_in old name c ≡ false → under_in old name c ≡ true → has_in w c ≡ true
  nothing c x y = absurd (cc)

pub none_under : (rolls : BTreeMap (List ℕ) (List ℕ)) (name : List ℕ) → None ≡ tree.get (slice_cmp nat_cmp) rolls name → (c : ℕ) → under_in rolls name c ≡ false
none_under rolls name at c = ap (λ o. has_in o c) (sym at)

pub lent_none : (new : BTreeMap (List ℕ) (List ℕ)) (name more : List ℕ) → tree.get (slice_cmp nat_cmp) new name ≡ Some more → more ≡ [] → (c : ℕ) → under_in new name c ≡ false
lent_none new name more at empty c = ap (λ o. has_in o c) at ∙ ap (λ cells. is_member cells c) empty

pub on_true : {P Q : Type 0} (b : Bool) → (IsTrue b → P) → (P → Q) → OnTrue b Q
on_true true f g = g (f refl)
on_true false f g = tt

pub from_true : {P : Type 0} (b : Bool) → b ≡ true → OnTrue b P → P
from_true true e h = h
from_true false e h = absurd (cc)

pub from_false : {P : Type 0} (b : Bool) → b ≡ false → OnFalse b P → P
from_false false e h = h
from_false true e h = absurd (cc)

-- one change after another
pub under_then : (a b c : NameCells) (cell : ℕ) → StayUnderBut cell a b → StayUnderBut cell b c → StayUnderBut cell a c
under_then a b c cell first second name x apart h = second name x apart (first name x apart h)

pub names_then : (a b c : Groups) (cell : ℕ) → KeepsNamesBut cell a b → KeepsNamesBut cell b c → KeepsNamesBut cell a c
names_then a b c cell first second = record {
  persons = under_then a.persons b.persons c.persons cell first.persons second.persons;
  actions = under_then a.actions b.actions c.actions cell first.actions second.actions;
  resources = under_then a.resources b.resources c.resources cell first.resources second.resources;
}

pub under_same : (a : NameCells) (cell : ℕ) → StayUnderBut cell a a
under_same a cell name x apart h = h

-- ---- groups

-- a cell stands in a group that may be there
abbrev pub holds_at : Option Group → ℕ → Bool
holds_at o c = option_map_or (λ x. is_member x.cells c) o false

abbrev pub numbers_at : Option Group → List ℕ
numbers_at o = option_map_or (λ x. x.numbers) o []

-- a change of one group keeps the cells of the others, and those that it keeps
pub stay_in : (is_left : ℕ → ℕ → Bool) (old new : Slab Group) (group : ℕ) → ((g : ℕ) → (g ≡ group → ⊥) → get new g ≡ get old g)
    → ((c : ℕ) → is_left group c ≡ false → holds_in old group c ≡ true → (holds_in new group c ≡ true) × (numbers_in new group ≡ numbers_in old group)) → StayInBut is_left old new
stay_in is_left old new group others here g c stays h = by (nat_eq g group) refl where
  apart : false ≡ true → ⊥
  apart x = absurd (cc)

  by : (b : Bool) → nat_eq g group ≡ b → (holds_in new g c ≡ true) × (numbers_in new g ≡ numbers_in old g)
  by true e =
      let same : group ≡ g = sym ((Decides-eqb g group).0 e) in
      subst (λ x. is_left x c ≡ false → holds_in old x c ≡ true → (holds_in new x c ≡ true) × (numbers_in new x ≡ numbers_in old x)) same (here c) stays h
  by false e =
      let rest : get new g ≡ get old g = others g (λ same. apart (sym e ∙ (Decides-eqb g group).1 same)) in
      (ap (λ o. holds_at o c) rest ∙ h, ap numbers_at rest)

-- the groups are as before
pub same_in : (old new : Slab Group) → SameValues old new → StayInBut (λ _ _. false) old new
same_in old new same g c stays h = (ap (λ o. holds_at o c) (same g) ∙ h, ap numbers_at (same g))

-- one more cell in a group
joined_here : (c : ℕ) (o p : Option Group) → Joins o p → holds_at o c ≡ true → (holds_at p c ≡ true) × (numbers_at p ≡ numbers_at o)
joined_here c None None j h = absurd (cc)
joined_here c None (Some y) j h = absurd j
joined_here c (Some x) None j h = absurd j
joined_here c (Some x) (Some y) j h = (j.1 c h, j.0)

pub joined_stay : (old new : Slab Group) (group : ℕ) → ((g : ℕ) → (g ≡ group → ⊥) → get new g ≡ get old g) → Joins (get old group) (get new group) → StayInBut (λ _ _. false) old new
joined_stay old new group others here = stay_in (λ _ _. false) old new group others (λ c stays h. joined_here c (get old group) (get new group) here h)

pub joined_numbers : (o p : Option Group) → Joins o p → numbers_at p ≡ numbers_at o
joined_numbers None None j = refl
joined_numbers None (Some y) j = absurd j
joined_numbers (Some x) None j = absurd j
joined_numbers (Some x) (Some y) j = j.0

-- a new group
pub made_stay : (old new : Slab Group) (group : ℕ) (made : Group) → get old group ≡ None → Updates old new group (Some made) → StayInBut (λ _ _. false) old new
made_stay old new group made free updates = stay_in (λ _ _. false) old new group updates.others (λ c stays h. nothing c (ap (λ o. holds_at o c) free) h) where
  nothing : (c : ℕ) → holds_in old group c ≡ false → holds_in old group c ≡ true → (holds_in new group c ≡ true) × (numbers_in new group ≡ numbers_in old group)
  nothing c x y = absurd (cc)

pub made_there : (old new : Slab Group) (group : ℕ) (made : Group) (cell : ℕ) → Updates old new group (Some made) → is_member made.cells cell ≡ true → holds_in new group cell ≡ true
made_there old new group made cell updates there = ap (λ o. holds_at o cell) updates.changed ∙ there

pub made_numbers : (old new : Slab Group) (group : ℕ) (made : Group) → Updates old new group (Some made) → numbers_in new group ≡ made.numbers
made_numbers old new group made updates = ap numbers_at updates.changed

-- a cell less in a group
pair_apart : (group cell c : ℕ) → is_pair group cell group c ≡ false → nat_eq c cell ≡ false
pair_apart group cell c h = ap (λ b. b && nat_eq c cell) (sym ((Decides-eqb group group).1 refl)) ∙ h

left_here : (cell c : ℕ) (o p : Option Group) → Leaves cell o p → nat_eq c cell ≡ false → holds_at o c ≡ true → (holds_at p c ≡ true) × (numbers_at p ≡ numbers_at o)
left_here cell c None None l apart h = absurd (cc)
left_here cell c None (Some y) l apart h = absurd l
left_here cell c (Some x) None l apart h = absurd l
left_here cell c (Some x) (Some y) l apart h = (l.1 c apart ∙ h, l.0)

pub left_stay : (old new : Slab Group) (group cell : ℕ) → ((g : ℕ) → (g ≡ group → ⊥) → get new g ≡ get old g) → Leaves cell (get old group) (get new group) → StayInBut (is_pair group cell) old new
left_stay old new group cell others here =
    stay_in (is_pair group cell) old new group others (λ c stays h. left_here cell c (get old group) (get new group) here (pair_apart group cell c stays) h)

-- and the group is taken away, if it has no cell
emptied_holds : (o : Option Group) (c : ℕ) → IsEmptied o → holds_at o c ≡ true → ⊥
emptied_holds None c empty h = absurd (cc)
emptied_holds (Some x) c empty h =
    let no : is_member x.cells c ≡ false = ap (λ cells. is_member cells c) empty in
    absurd (cc)

pub removed_stay : (old middle new : Slab Group) (group cell : ℕ) → ((g : ℕ) → (g ≡ group → ⊥) → get middle g ≡ get old g) → Leaves cell (get old group) (get middle group) → IsEmptied (get middle group)
    → Updates middle new group None → StayInBut (is_pair group cell) old new
removed_stay old middle new group cell others here empty updates =
    stay_in (is_pair group cell) old new group (λ g apart. updates.others g apart ∙ others g apart)
    (λ c stays h. absurd (emptied_holds (get middle group) c empty (left_here cell c (get old group) (get middle group) here (pair_apart group cell c stays) h).0))
