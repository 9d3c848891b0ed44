-- Words of the contracts of groups that only their own crate needs.
use Rattle.std.specs.Prelude.{◌≡◌, ◌||◌, ℕ, List, Option, None, Some, true}
use Rattle.std.specs.List.{list_any}
use Rattle.ent_request.specs.declared.key.ReadKey.{ReadKey}
use Rattle.ent_request.specs.declared.question.Question.{Question}
use Rattle.ent_request.specs.declared.readers.NamePlace.{NamePlace}
use Rattle.ent_request.specs.declared.readers.NamePlace.TheVariants.{Person, Action, Resource}
use Rattle.ent_request.specs.Listed.{listed}
use Rattle.ent_request.specs.Noted.{has_key}
use Rattle.ent_request.specs.Questions.{AreNumbers, at_numbers, keys_at}
use Rattle.ent_index.specs.declared.groups.Groups.{Groups}
use Rattle.ent_index.specs.declared.names.NameCells.{NameCells}
use Rattle.ent_index.specs.declared.wanted.Wanted.{Wanted}
use Rattle.ent_index.specs.Groups.{IsNamed, holds, is_among, is_member, is_wanted, numbers_of}

-- each of some cells is among others
abbrev pub HasMore : List ℕ → List ℕ → Type 0
HasMore old new = (c : ℕ) → is_member old c ≡ true → is_member new c ≡ true

-- all these cells are there
abbrev pub HasAll : List ℕ → List ℕ → Type 0
HasAll cells all = (c : ℕ) → is_member cells c ≡ true → is_member all c ≡ true

abbrev pub HasAllOf : Option (List ℕ) → List ℕ → Type 0
HasAllOf None all = Unit {0}
HasAllOf (Some cells) all = HasAll cells all

-- there are the cells whose groups have the question of a number
abbrev pub HasAsking : Groups → ℕ → List ℕ → Type 0
HasAsking groups n all = (g c : ℕ) → holds groups g c ≡ true → is_among (numbers_of groups g) n ≡ true → is_member all c ≡ true

-- there is each cell that reads what is wanted
abbrev pub CoversOne : Groups → Wanted → List ℕ → Type 0
CoversOne groups w all = (person action resource : List ℕ) (g c : ℕ) → IsNamed groups person action resource c → holds groups g c ≡ true
    → is_wanted person action resource (numbers_of groups g) w ≡ true → is_member all c ≡ true

-- the names at a place
abbrev pub names_at : NamePlace → Groups → NameCells
names_at Person groups = groups.persons
names_at Action groups = groups.actions
names_at Resource groups = groups.resources

-- what is wanted of one key more
abbrev pub AddsKey : List Question → ReadKey → List Wanted → List Wanted → Type 0
AddsKey questions key old new = (person action resource numbers : List ℕ) → AreNumbers questions numbers
    → list_any (is_wanted person action resource numbers) new ≡ (list_any (is_wanted person action resource numbers) old || has_key (keys_at (listed person action resource) (at_numbers questions numbers)) key)
