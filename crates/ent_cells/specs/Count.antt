-- How the count of evaluations rises.
use Rattle.std.specs.Prelude.{◌≡◌, ℕ, ◌≤◌, ◌+◌, ◌-◌, ◌^◌, min}

-- the greatest count, at which it stays
abbrev pub most : ℕ
most = 2 ^ 128 - 1

-- a count, raised by so much, or to the greatest
abbrev pub raised : ℕ → ℕ → ℕ
raised before n = min (before + n) most

-- a count rose by so much
abbrev pub Counts : ℕ → ℕ → ℕ → Type 0
Counts before after n = before ≤ most → after ≡ raised before n

-- it rose by so much at most
abbrev pub CountsAtMost : ℕ → ℕ → ℕ → Type 0
CountsAtMost before after n = before ≤ most → (before ≤ after) × (after ≤ raised before n)
