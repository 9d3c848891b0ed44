-- The cells of which a part failed are those of the definition.
use Rattle.std.proofs.Common.{◌≡◌, Bool, true, false, List, [], ◌∷◌, ap, map, refl}
use Rattle.std.specs.Prelude.{filter, if◌then◌else◌}

one_more : {A : Type 0} (b d : Bool) (c : A) (js : List (A × Bool)) (cs : List A) → map (λ (j : A × Bool). j.0) js ≡ cs
    → map (λ (j : A × Bool). j.0) (if b then (c, d) ∷ js else js) ≡ (if b then c ∷ cs else cs)
one_more true d c js cs is = ap (λ xs. c ∷ xs) is
one_more false d c js cs is = is

pub failed_cells : {A : Type 0} (p : A → Bool) (cs : List A)
    → map (λ (j : A × Bool). j.0) (filter (λ (j : A × Bool). j.1) (map (λ c. (c, p c)) cs)) ≡ filter p cs
failed_cells p [] = refl
failed_cells p (c ∷ cs) =
    one_more (p c) (p c) c (filter (λ j. j.1) (map (λ c. (c, p c)) cs)) (filter p cs) (failed_cells p cs)
