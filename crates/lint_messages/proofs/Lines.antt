-- A line more for a fault more.
use Rattle.std.proofs.Common.{◌≡◌, ℕ, ◌+◌, ◌<◌, List, [], ◌∷◌, ◌++◌, length, get_or, map, take, sym, subst}
use Rattle.std.proofs.lemmas.List.{map-append, take_more}
use Rattle.lint_places.specs.Faults.{FaultAt}
use Rattle.lint_messages.specs.Told.{ArePlaced, IsPlaced}

placed_more : (faults : List FaultAt) (lines : List (List ℕ)) (f : FaultAt) (l : List ℕ) → ArePlaced faults lines → IsPlaced f.1.pointer l → ArePlaced (faults ++ f ∷ []) (lines ++ l ∷ [])
placed_more [] [] f l h one = (one, tt)
placed_more (x ∷ fs) (y ∷ ls) f l h one = (h.0, placed_more fs ls f l h.1 one)
placed_more [] (y ∷ ls) f l h one = absurd h
placed_more (x ∷ fs) [] f l h one = absurd h

-- the next of a list
pub next_placed : {X : Type 0} (at : X → FaultAt) (xs : List X) (i : ℕ) (x : X) (lines : List (List ℕ)) (l : List ℕ) → i < length xs → x ≡ get_or xs i x
    → ArePlaced (map at (take i xs)) lines → IsPlaced (at x).1.pointer l → ArePlaced (map at (take (i + 1) xs)) (lines ++ l ∷ [])
next_placed at xs i x lines l lt here so_far one =
    rw (take_more xs i x lt, ← here, map-append at (take i xs) (x ∷ [])) (placed_more (map at (take i xs)) lines (at x) l so_far one)
