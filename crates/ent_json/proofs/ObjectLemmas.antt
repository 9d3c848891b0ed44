-- Objects of `serde_json` with several members, and lists that have a member.
use Rattle.std.proofs.Common.{◌≡◌, ◌==◌, false, List, [], ◌∷◌, length, map, Some, None, String, Global, refl}
use Rattle.serde_json.specs.Data.{Data}
use Rattle.serde_json.specs.View.{items_of, members_view}
use Rattle.serde_json.specs.declared.value.Value.{Value}
use Rattle.ent_json.specs.Objects.{alone, filled}

pub alone-many : (es : List (String Global × Value)) → (length es ≡ 1 → ⊥) → alone (members_view es) ≡ None
alone-many [] h = refl
alone-many (e ∷ []) h = absurd (h refl)
alone-many (e ∷ f ∷ es) h = refl

-- a list that is not empty has a member
pub filled-some : {B : Type 0} (content : B → Data) (vs : List B) → false ≡ (length vs == 0)
    → filled (items_of (map content vs)) ≡ Some (items_of (map content vs))
filled-some content [] h = absurd cc
filled-some content (v ∷ vs) h = refl
