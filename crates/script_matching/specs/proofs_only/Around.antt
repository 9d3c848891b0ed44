-- How the code looks for a member of a list: words of its own contracts.
use Rattle.std.specs.Prelude.{ℕ, List, [], ◌∷◌, zero, suc, Bool, false}
use Rattle.serde_json.specs.Data.{Data}
use Rattle.serde_json.specs.View.{view}
use Rattle.serde_json.specs.declared.value.Value.{Value}
use Rattle.script_matching.specs.Matching.{fits}

-- the data is a part of that of the member at a place, if there is one
abbrev pub is_part_at : Data → List Value → ℕ → Bool
is_part_at d [] n = false
is_part_at d (v ∷ vs) zero = fits false d (view v)
is_part_at d (v ∷ vs) (suc n) = is_part_at d vs n
