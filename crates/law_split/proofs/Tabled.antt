-- The table of a part, and what is reported of it: a row for each of its people.
use Rattle.std.proofs.Common.{◌≡◌, ℕ, zero, suc, ◌+◌, List, [], ◌∷◌, ◌++◌, map, Bool, true, Some}
use Rattle.std.proofs.Common.{refl, sym, ap, ◌∙◌, arith}
use Rattle.std.specs.Prelude.{filter, slice_get}
use Rattle.std.specs.List.{AllByRecursion, flat_map, zip}
use Rattle.std.proofs.lemmas.Bool.{eq-eqb}
use Rattle.std.proofs.lemmas.List.{length-map, map-append}
use Rattle.std.proofs.lemmas.List.Elements.{filter-append}
use Rattle.ent_request.specs.Held.{Held, looks_in}
use Rattle.ent_table.specs.Names.{Triple, triple_of, triples, with_actions, with_resources}
use Rattle.ent_table.specs.State.{State, answer_by, answer_to, table_of}
use Rattle.ent_request.specs.declared.answer.Answer.{Answer}
use Rattle.ent_table.specs.Parts.{cells_of}
use Rattle.ent_report.proofs.Pairs.{all_in_each, all_mapped, all_passed, all_weaker}
use Rattle.law_split.specs.Split.{IsSplit, is_of}
use Rattle.law_split.specs.Merged.{merged}
use Rattle.law_split.proofs.Pieces.{pieces}
use Rattle.law_split.proofs.Rowed.{HasItsRows, kept_name, merged_is, rows_of}

-- ---- lists

map_flat : {X Y Z : Type 0} (g : Y → Z) (f : X → List Y) (xs : List X) → map g (flat_map f xs) ≡ flat_map (λ x. map g (f x)) xs
map_flat g f [] = refl
map_flat g f (x ∷ xs) = map-append g (f x) (flat_map f xs) ∙ ap (λ l. map g (f x) ++ l) (map_flat g f xs)

pub filter_flat : {X Y : Type 0} (p : Y → Bool) (f : X → List Y) (xs : List X) → filter p (flat_map f xs) ≡ flat_map (λ x. filter p (f x)) xs
filter_flat p f [] = refl
filter_flat p f (x ∷ xs) = filter-append p (f x) (flat_map f xs) ∙ ap (λ l. filter p (f x) ++ l) (filter_flat p f xs)

each_mapped : {X Y : Type 0} (P : Y → Type 0) (f : X → Y) (xs : List X) → AllByRecursion (λ x. P (f x)) xs → AllByRecursion P (map f xs)
each_mapped P f [] h = tt
each_mapped P f (x ∷ xs) h = (h.0, each_mapped P f xs h.1)

all_joined : {X : Type 0} (P : X → Type 0) (xs ys : List X) → AllByRecursion P xs → AllByRecursion P ys → AllByRecursion P (xs ++ ys)
all_joined P [] ys a b = b
all_joined P (x ∷ xs) ys a b = (a.0, all_joined P xs ys a.1 b)

pub all_flat : {X Y : Type 0} (P : Y → Type 0) (f : X → List Y) (xs : List X) → AllByRecursion (λ x. AllByRecursion P (f x)) xs → AllByRecursion P (flat_map f xs)
all_flat P f [] h = tt
all_flat P f (x ∷ xs) h = all_joined P (f x) (flat_map f xs) h.0 (all_flat P f xs h.1)

-- an element of a list that was made one by one
pub at_map : {X Y : Type 0} (f : X → Y) (xs : List X) (i : ℕ) (y : Y) → slice_get (map f xs) i ≡ Some y → (x : X) × ((slice_get xs i ≡ Some x) × (y ≡ f x))
at_map f [] i y e = cc
at_map f (x ∷ xs) zero y e = (x, (refl, cc))
at_map f (x ∷ xs) (suc i) y e = at_map f xs i y e

-- a person is of her own number
pub at_own : (part_of : List ℕ → ℕ) (person : List ℕ) → is_of part_of (part_of person) person ≡ true
at_own part_of person = eq-eqb (part_of person) (part_of person) refl

-- ---- the cells of a person

abbrev pub Cell : Type 0
Cell = Triple × Answer

-- what is held and two lists, of which each person has her cells
pub record Base : Type 0 where
  pub held : Held
  pub actions : List (List ℕ)
  pub resources : List (List ℕ)

abbrev pub base_of : State → Base
base_of s = record { held = s.held; actions = s.names.actions; resources = s.names.resources }

abbrev pub block : Base → List ℕ → List Cell
block base person = map (λ t. (t, answer_by (looks_in base.held) t)) (with_actions person base.actions base.resources)

-- the requests of a person are hers
pub of_person : (actions resources : List (List ℕ)) (person : List ℕ)
    → AllByRecursion (λ (t : Triple). t.person ≡ person) (with_actions person actions resources)
of_person actions resources person =
    all_in_each (λ (t : Triple). t.person ≡ person) (λ action. with_resources person action resources)
    (λ action. all_mapped (λ (t : Triple). t.person ≡ person) (triple_of person action) (λ _. refl) resources) actions

-- and so are her cells, and those of them that pass
abbrev IsHers : List ℕ → Cell → Type 0
IsHers person c = c.0.person ≡ person

pub keyed : (base : Base) (person : List ℕ) → AllByRecursion (IsHers person) (block base person)
keyed base person =
    each_mapped (IsHers person) (λ t. (t, answer_by (looks_in base.held) t)) (with_actions person base.actions base.resources)
    (of_person base.actions base.resources person)

pub keyed_passed : (p : Cell → Bool) (base : Base) (person : List ℕ) → AllByRecursion (IsHers person) (filter p (block base person))
keyed_passed p base person = all_passed (IsHers person) p (block base person) (keyed base person)

-- and something of each of these that has the person
pub keyed_of : {B : Type 0} (key : B → List ℕ) (p : Cell → Bool) (f : Cell → B) → ((c : Cell) → key (f c) ≡ c.0.person)
    → (base : Base) (person : List ℕ) → AllByRecursion (λ b. key b ≡ person) (map f (filter p (block base person)))
keyed_of key p f same base person =
    each_mapped (λ b. key b ≡ person) f (filter p (block base person))
    (all_weaker (IsHers person) (λ c. key (f c) ≡ person) (λ c h. same c ∙ h) (filter p (block base person)) (keyed_passed p base person))

-- ---- the table

paired : (f : Triple → Answer) (ts : List Triple) → zip ts (map f ts) ≡ map (λ t. (t, f t)) ts
paired f [] = refl
paired f (t ∷ ts) = ap (λ l. (t, f t) ∷ l) (paired f ts)

pub table_rows : (s : State) → table_of s ≡ flat_map (block (base_of s)) s.names.people
table_rows s =
    paired (answer_to s) (triples s.names)
    ∙ map_flat (λ t. (t, answer_to s t)) (λ person. with_actions person s.names.actions s.names.resources) s.names.people

pub map_filtered : {B : Type 0} (p : Cell → Bool) (f : Cell → B) (s : State)
    → map f (filter p (table_of s)) ≡ flat_map (λ person. map f (filter p (block (base_of s) person))) s.names.people
map_filtered p f s =
    ap (λ l. map f (filter p l)) (table_rows s)
    ∙ ap (map f) (filter_flat p (block (base_of s)) s.names.people)
    ∙ map_flat f (λ person. filter p (block (base_of s) person)) s.names.people

module _ (part_of : List ℕ → ℕ) (whole : State) (parts : List State) (split : IsSplit part_of whole parts) where
  -- a part and the whole have one base
  pub same_base : (number : ℕ) (part : State) → slice_get parts number ≡ Some part → base_of part ≡ base_of whole
  same_base number part e =
      let is = split.each number part e in
      λ i. record { held = is.held i; actions = is.actions i; resources = is.resources i }

  -- a report that has rows of each person, of a part
  pub rows_of_part : {B : Type 0} (report : State → List B) (row : Base → List ℕ → List B) → ((s : State) → report s ≡ flat_map (row (base_of s)) s.names.people)
      → (number : ℕ) (part : State) → slice_get parts number ≡ Some part → report part ≡ flat_map (row (base_of whole)) (filter (is_of part_of number) whole.names.people)
  rows_of_part report row rows number part e =
      rows part ∙ (λ i. flat_map (row (same_base number part e i)) ((split.each number part e).people i))

  -- and so merged it is that of the whole
  pub report_merged : {B : Type 0} (key : B → List ℕ) (report : State → List B) (row : Base → List ℕ → List B) → ((s : State) → report s ≡ flat_map (row (base_of s)) s.names.people)
      → ((base : Base) (person : List ℕ) → AllByRecursion (λ b. key b ≡ person) (row base person))
      → report whole ≡ merged key whole.names.people (flat_map (λ list. list) (map report parts))
  report_merged {B = B} key report row rows keys =
      let all = row (base_of whole) in
      rows whole
      ∙ sym (merged_is key all (keys (base_of whole)) part_of whole.names.people (map report parts)
      (λ person. omega (arith, split.placed person, length-map parts report))
      (pieces (HasItsRows key all (keys (base_of whole)) part_of whole.names.people) (map report parts) each)
      split.once.0)
    where
      each : (i : ℕ) (bs : List B) → slice_get (map report parts) i ≡ Some bs → bs ≡ flat_map (row (base_of whole)) (filter (is_of part_of i) whole.names.people)
      each i bs e = let one = at_map report parts i bs e in one.1.1 ∙ rows_of_part report row rows i one.0 one.1.0

  -- the cells of a person
  pub block_of_part : (person : List ℕ) (part : State) → slice_get parts (part_of person) ≡ Some part → cells_of person (table_of whole) ≡ cells_of person (table_of part)
  block_of_part person part e =
      let all = block (base_of whole) in
      let key = λ (c : Cell). c.0.person in
      ap (cells_of person) (table_rows whole)
      ∙ rows_of key all (keyed (base_of whole)) person whole.names.people
      ∙ ap (flat_map all) (sym (kept_name (is_of part_of (part_of person)) person (at_own part_of person) whole.names.people))
      ∙ sym (ap (cells_of person) (rows_of_part table_of block table_rows (part_of person) part e)
      ∙ rows_of key all (keyed (base_of whole)) person (filter (is_of part_of (part_of person)) whole.names.people))
