-- Lists in which no name stands twice: so a number of requests is the size of a set.
use Rattle.std.specs.Prelude.{◌≡◌, nat_eq, Ok}
use Rattle.std.specs.Cmp.Lexicographic.{pointwise}
use Rattle.std.specs.List.{IsDistinct}
use Rattle.ent_request.specs.Held.{Held}
use Rattle.ent_table.specs.declared.edit.Edit.{Edit}
use Rattle.ent_table.specs.declared.limits.Limits.{Limits}
use Rattle.ent_table.specs.Names.{Names}
use Rattle.ent_table.specs.State.{State, initial}
use Rattle.ent_table.specs.Step.{step}

-- no list has a name twice
abbrev pub HasNoDoubles : Names → Type 0
HasNoDoubles n =
    IsDistinct (pointwise nat_eq) n.people × IsDistinct (pointwise nat_eq) n.actions
    × IsDistinct (pointwise nat_eq) n.resources

-- the lists of a first state have none twice, and no accepted edit makes one stand twice
abbrev pub NoNameIsTwice : Type 0
NoNameIsTwice = ((held : Held) (limits : Limits) → HasNoDoubles (initial held limits).names)
    × ((s t : State) (edit : Edit) → HasNoDoubles s.names → step s edit ≡ Ok t → HasNoDoubles t.names)
