-- What one step does to groups: one group, one cell.
use Rattle.std.specs.Prelude.{◌≡◌, ℕ, List, [], Option, None, Some, false, nat_eq, true}
use Rattle.std.specs.BTreeMap as tree
use Rattle.std.specs.Cmp.Lexicographic.{slice_cmp}
use Rattle.std.specs.Option.{option_map}
use Rattle.std.specs.Ordering.{nat_cmp}
use Rattle.slab.specs.Slab.{Slab, get}
use Rattle.ent_index.specs.declared.group.Group.{Group}
use Rattle.ent_index.specs.declared.names.NameCells.{NameCells}
use Rattle.ent_index.specs.Groups.{is_member}

-- there is a group under this number, and its questions have these
abbrev pub IsGroupOf : Slab Group → ℕ → List ℕ → Type 0
IsGroupOf groups g numbers = option_map (λ x. x.numbers) (get groups g) ≡ Some numbers

-- a group is there before and after, or never, with the same questions, and has the same cells, and maybe more
abbrev pub Joins : Option Group → Option Group → Type 0
Joins None None = Unit {0}
Joins None (Some h) = ⊥
Joins (Some g) None = ⊥
Joins (Some g) (Some h) = (h.numbers ≡ g.numbers) × ((c : ℕ) → is_member g.cells c ≡ true → is_member h.cells c ≡ true)

-- a group is there before and after, or never, with the same questions, and has the same cells but maybe one
abbrev pub Leaves : ℕ → Option Group → Option Group → Type 0
Leaves cell None None = Unit {0}
Leaves cell None (Some h) = ⊥
Leaves cell (Some g) None = ⊥
Leaves cell (Some g) (Some h) = (h.numbers ≡ g.numbers) × ((c : ℕ) → nat_eq c cell ≡ false → is_member h.cells c ≡ is_member g.cells c)

-- a group has no cell
abbrev pub IsEmptied : Option Group → Type 0
IsEmptied None = Unit {0}
IsEmptied (Some g) = g.cells ≡ []

-- the cells under a name, if it has any
abbrev pub roll_under : NameCells → List ℕ → Option (List ℕ)
roll_under names name = tree.get (slice_cmp nat_cmp) names.rolls name
