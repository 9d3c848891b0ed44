-- The way through a document for all its faults, as the code keeps it: words of its own contracts.
use Rattle.std.specs.Prelude.{◌≡◌, ◌<◌, ℕ, List, Bool, false, true, slice_index_or}
use Rattle.serde_json.specs.Data.{Data}
use Rattle.ent_policy.specs.declared.fault.DocFault.{DocFault}
use Rattle.lint_places.specs.Faults.{AreFaults, FaultAt, TellsEach, is_told_at}
use Rattle.lint_places.specs.Places.{Spot, StandsInside, whole}

-- a spot stands in a document
pub record IsWithin (spot : Spot) (d : Data) : Type 0 where
  pub level : ℕ
  pub is_inside : StandsInside level spot (whole d)

-- what is told goes on, and stays right, of each document in which the spot stands
abbrev pub Keeps : Spot → List FaultAt → List FaultAt → Type 0
Keeps s before after = (f : DocFault) (d : Data) → IsWithin s d → AreFaults f d before → AreFaults f d after

-- where a fault was told, one is told
abbrev pub TellsMore : List FaultAt → List FaultAt → Type 0
TellsMore before after = (pointer : List ℕ) → is_told_at before pointer ≡ true → is_told_at after pointer ≡ true

-- unless the search was cut, each fault is told to which one comes from those of some parts that have a number below this
abbrev pub TellsBelow : ℕ → List FaultAt → Bool → List FaultAt → Type 0
TellsBelow end parts is_cut all = is_cut ≡ false → (k : ℕ) (d : FaultAt) → k < end → TellsEach (slice_index_or parts k d) all
