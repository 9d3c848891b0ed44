-- The laws of rebuilding.
use Rattle.std.specs.Prelude.{◌≡◌, List, Ok, length, map}
use Rattle.std.specs.List.{AllByRecursion, Contains}
use Rattle.ent_table.specs.declared.edit.Edit.{Edit}
use Rattle.ent_table.specs.State.{State}
use Rattle.ent_table.specs.Step.{step}
use Rattle.law_rebuild.specs.Rebuilding.{as_added, emptied, reached, rebuilding, stepped}
use Rattle.law_rebuild.specs.Sound.{IsSound, IsSoundEdit}

-- a sound state is made anew by its edits, out of one with the modules and the limits alone; only the serial is another
abbrev pub StatesAreRebuilt : Type 0
StatesAreRebuilt = (s : State) → IsSound s → stepped (emptied s) (rebuilding s) ≡ Ok (record s { serial = length (rebuilding s) })

-- a state with nothing in it is sound, and an edit whose document was checked leads from a sound state to a sound one, with the same modules and limits
abbrev pub SoundnessIsKept : Type 0
SoundnessIsKept =
    ((s : State) → IsSound (emptied s)) × ((s t : State) (e : Edit) → IsSound s → IsSoundEdit e → step s e ≡ Ok t → IsSound t × (emptied t ≡ emptied s))

-- whichever edits were made of a state with nothing in it, some refused, the state behind them is made anew out of the same
abbrev pub ReachedStatesAreRebuilt : Type 0
ReachedStatesAreRebuilt =
    (s : State) (es : List Edit) → AllByRecursion IsSoundEdit es
    → let t = reached (emptied s) es in stepped (emptied s) (rebuilding t) ≡ Ok (record t { serial = length (rebuilding t) })

-- each edit that makes a state anew is one of those that led to it, where putting a document in the place of another counts as putting it there
abbrev pub ReachedEditsWereMade : Type 0
ReachedEditsWereMade = (s : State) (es : List Edit) → AllByRecursion (Contains (map as_added es)) (rebuilding (reached (emptied s) es))
