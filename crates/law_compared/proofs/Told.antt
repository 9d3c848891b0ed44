-- Nothing is told exactly of two empty lists.
use Rattle.std.proofs.Common.{◌≡◌, List, [], ◌∷◌, Bool, true, false, refl}
use Rattle.std.specs.Prelude.{◌&&◌}
use Rattle.serde_json.specs.Data.{Data}
use Rattle.script_compare.specs.Changes.{is_nothing, told}

-- a list has no member
abbrev pub is_empty : {A : Type 0} → List A → Bool
is_empty [] = true
is_empty (x ∷ xs) = false

pub nothing_told : (decisions reasons : List Data)
    → is_nothing (told decisions reasons) ≡ (is_empty decisions && is_empty reasons)
nothing_told [] [] = refl
nothing_told [] (r ∷ rs) = refl
nothing_told (d ∷ ds) rs = refl
