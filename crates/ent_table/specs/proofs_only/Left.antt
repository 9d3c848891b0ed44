-- What is left of an iterator at its turns.
use Rattle.std.specs.Prelude.{◌≡◌, ◌⊎◌, []}
use Rattle.ent_table.specs.declared.cells.Cells.{Cells}
use Rattle.ent_table.specs.Left.{requests_left}

-- where no resource is left, no action is, or there are no resources at all
abbrev pub HasTurnedAction : {E A P D : Type 0} → Cells E A P D → Type 0
HasTurnedAction c = c.resources.now ≡ [] → (c.actions.now ≡ []) ⊎ (c.all_resources.now ≡ [])

-- where no resource or no action is left, nothing is
abbrev pub HasTurned : {E A P D : Type 0} → Cells E A P D → Type 0
HasTurned c = (c.resources.now ≡ []) ⊎ (c.actions.now ≡ []) → requests_left c ≡ []
