-- Runs: lines answered one after the other.
use Rattle.std.specs.Prelude.{◌≡◌, ℕ, List, [], ◌∷◌}
use Rattle.ent_line.specs.Replies.{Answer}

-- what one line may do: the world before, the line, its answer, the world after
abbrev pub Handling : Type 0 → Type 1
Handling W = W → List ℕ → Answer → W → Type 0

-- these lines, each with its answer, lead from one world to another
abbrev pub Run : {W : Type 0} → Handling W → W → List (List ℕ) → List Answer → W → Type 0
Run Answers w [] [] v = v ≡ w
Run {W = W} Answers w (line ∷ lines) (a ∷ answers) v = (mid : W) × Answers w line a mid × Run Answers mid lines answers v
Run Answers w [] (a ∷ answers) v = ⊥
Run Answers w (line ∷ lines) [] v = ⊥
