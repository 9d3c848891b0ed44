-- A line more for a part more.
use Rattle.std.proofs.Common.{◌≡◌, ℕ, ◌+◌, ◌<◌, List, [], ◌∷◌, ◌++◌, length, get_or, take}
use Rattle.std.proofs.lemmas.List.{take_more}
use Rattle.lint_messages.specs.Told.{IsPlaced}
use Rattle.lint_meaning.specs.declared.warning.Warning.{Warning}
use Rattle.cli_check.specs.Meant.{AreToldOf}

told_more : (ws : List Warning) (lines : List (List ℕ)) (w : Warning) (l : List ℕ) → AreToldOf ws lines → IsPlaced w.pointer l → AreToldOf (ws ++ w ∷ []) (lines ++ l ∷ [])
told_more [] [] w l h one = (one, tt)
told_more (x ∷ ws) (y ∷ ls) w l h one = (h.0, told_more ws ls w l h.1 one)
told_more [] (y ∷ ls) w l h one = absurd h
told_more (x ∷ ws) [] w l h one = absurd h

-- the next of a list
pub next_told : (ws : List Warning) (i : ℕ) (w : Warning) (lines : List (List ℕ)) (l : List ℕ) → i < length ws → w ≡ get_or ws i w
    → AreToldOf (take i ws) lines → IsPlaced w.pointer l → AreToldOf (take (i + 1) ws) (lines ++ l ∷ [])
next_told ws i w lines l lt here so_far one = rw (take_more ws i w lt, ← here) (told_more (take i ws) lines w l so_far one)
