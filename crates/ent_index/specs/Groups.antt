-- Groups of cells: those of a group read by the same questions, each by its own names.
use Rattle.std.specs.Prelude.{◌≡◌, ◌<◌, ◌^◌, ℕ, List, [], Bool, true, false, ◌&&◌, nat_eq}
use Rattle.std.specs.BTreeMap as tree
use Rattle.std.specs.Cmp.Lexicographic.{slice_cmp}
use Rattle.std.specs.List.{list_any}
use Rattle.std.specs.Option.{option_map_or}
use Rattle.std.specs.Ordering.{nat_cmp}
use Rattle.slab.specs.Slab.{Slab, get}
use Rattle.ent_request.specs.declared.key.ReadKey.{ReadKey}
use Rattle.ent_request.specs.declared.question.Question.{Question}
use Rattle.ent_request.specs.declared.readers.NamePlace.TheVariants.{Person, Action, Resource}
use Rattle.ent_request.specs.declared.readers.Readers.{Readers}
use Rattle.ent_request.specs.declared.readers.Readers.TheVariants.{Named}
use Rattle.ent_request.specs.Listed.{listed}
use Rattle.ent_request.specs.Noted.{has_key}
use Rattle.ent_request.specs.Questions.{AreNumbers, at_numbers, keys_at}
use Rattle.ent_request.specs.Readers.{entity_in, is_reader}
use Rattle.ent_index.specs.declared.group.Group.{Group}
use Rattle.ent_index.specs.declared.groups.Groups.{Groups}
use Rattle.ent_index.specs.declared.names.NameCells.{NameCells}
use Rattle.ent_index.specs.declared.wanted.Wanted.{Wanted}
pub use Rattle.ent_index.specs.Rolls.{is_among, is_member}

-- ---- what is held

-- the numbers of a group's questions, none where there is no group
abbrev pub numbers_in : Slab Group → ℕ → List ℕ
numbers_in groups g = option_map_or (λ x. x.numbers) (get groups g) []

abbrev pub numbers_of : Groups → ℕ → List ℕ
numbers_of groups g = numbers_in groups.groups g

-- a cell stands in a group
abbrev pub holds_in : Slab Group → ℕ → ℕ → Bool
holds_in groups g c = option_map_or (λ x. is_member x.cells c) (get groups g) false

abbrev pub holds : Groups → ℕ → ℕ → Bool
holds groups g c = holds_in groups.groups g c

-- a cell stands under a name
abbrev pub is_under : NameCells → List ℕ → ℕ → Bool
is_under names name c = option_map_or (λ x. is_member x c) (tree.get (slice_cmp nat_cmp) names.rolls name) false

-- a cell stands under each of its names
pub record IsNamed (groups : Groups) (person action resource : List ℕ) (c : ℕ) : Type 0 where
  pub by_person : is_under groups.persons person c ≡ true
  pub by_action : is_under groups.actions action c ≡ true
  pub by_resource : is_under groups.resources resource c ≡ true

-- no cell stands under any name
abbrev pub HasNobody : NameCells → Type 0
HasNobody names = (name : List ℕ) (c : ℕ) → is_under names name c ≡ false

-- no cell stands in any group or under any name
pub record HasNoCells (groups : Groups) : Type 0 where
  pub in_groups : (g c : ℕ) → holds groups g c ≡ false
  pub persons : HasNobody groups.persons
  pub actions : HasNobody groups.actions
  pub resources : HasNobody groups.resources

-- ---- changes

-- a cell stands in a group no more. Cells are told by 32 bits, so a greater one never does
abbrev pub HasLeft : Groups → ℕ → ℕ → Type 0
HasLeft groups g c = c < 2 ^ 32 → holds groups g c ≡ false

-- a cell stands under none of its names. Cells are told by 32 bits, so a greater one never does
pub record IsUnnamed (groups : Groups) (person action resource : List ℕ) (c : ℕ) : Type 0 where
  pub by_person : c < 2 ^ 32 → is_under groups.persons person c ≡ false
  pub by_action : c < 2 ^ 32 → is_under groups.actions action c ≡ false
  pub by_resource : c < 2 ^ 32 → is_under groups.resources resource c ≡ false

-- each cell stays in its groups, and these keep their questions, but for those that a test tells
abbrev pub StayInBut : (ℕ → ℕ → Bool) → Slab Group → Slab Group → Type 0
StayInBut is_left old new = (g c : ℕ) → is_left g c ≡ false → holds_in old g c ≡ true → (holds_in new g c ≡ true) × (numbers_in new g ≡ numbers_in old g)

-- this is the group, and the cell
abbrev pub is_pair : ℕ → ℕ → ℕ → ℕ → Bool
is_pair group cell g c = nat_eq g group && nat_eq c cell

-- each cell stays in its groups
abbrev pub KeepsGroups : Groups → Groups → Type 0
KeepsGroups old new = StayInBut (λ _ _. false) old.groups new.groups

-- each cell stays in its groups, but for this cell in this group
abbrev pub KeepsGroupsBut : ℕ → ℕ → Groups → Groups → Type 0
KeepsGroupsBut group cell old new = StayInBut (is_pair group cell) old.groups new.groups

-- each cell but this stays under its names
abbrev pub StayUnderBut : ℕ → NameCells → NameCells → Type 0
StayUnderBut cell old new = (name : List ℕ) (c : ℕ) → nat_eq c cell ≡ false → is_under old name c ≡ true → is_under new name c ≡ true

pub record KeepsNamesBut (cell : ℕ) (old new : Groups) : Type 0 where
  pub persons : StayUnderBut cell old.persons new.persons
  pub actions : StayUnderBut cell old.actions new.actions
  pub resources : StayUnderBut cell old.resources new.resources

-- the names have the same cells
pub record HasSameNames (old new : Groups) : Type 0 where
  pub persons : new.persons ≡ old.persons
  pub actions : new.actions ≡ old.actions
  pub resources : new.resources ≡ old.resources

-- ---- what cells read

-- the keys that the cell of a listed request reads in a group
abbrev pub reads_in : List Question → Groups → List ℕ → List ℕ → List ℕ → ℕ → List ReadKey
reads_in questions groups person action resource g = keys_at (listed person action resource) (at_numbers questions (numbers_of groups g))

-- whether a listed request that asks the questions of these numbers looks up what is wanted
abbrev pub is_wanted : List ℕ → List ℕ → List ℕ → List ℕ → Wanted → Bool
is_wanted person action resource numbers w = is_reader w.readers (entity_in w.key.now) person action resource && is_among numbers w.number

-- this is wanted of some keys: a listed request looks one of it up where it looks one of the keys up
abbrev pub AreWanted : List Question → List ReadKey → List Wanted → Type 0
AreWanted questions keys wanted = (person action resource numbers : List ℕ) → AreNumbers questions numbers
    → list_any (is_wanted person action resource numbers) wanted ≡ list_any (λ k. has_key (keys_at (listed person action resource) (at_numbers questions numbers)) k) keys

-- a cell stands under a name at the place where readers have it
abbrev pub is_named_by : Readers → Groups → List ℕ → ℕ → Bool
is_named_by (Named Person) groups name c = is_under groups.persons name c
is_named_by (Named Action) groups name c = is_under groups.actions name c
is_named_by (Named Resource) groups name c = is_under groups.resources name c
is_named_by other groups name c = false

-- among these is each cell that stands in a group and under its names, and reads what is wanted
abbrev pub Covers : Groups → List Wanted → List ℕ → Type 0
Covers groups wanted cells = (person action resource : List ℕ) (g c : ℕ) → IsNamed groups person action resource c → holds groups g c ≡ true
    → list_any (is_wanted person action resource (numbers_of groups g)) wanted ≡ true → is_member cells c ≡ true
