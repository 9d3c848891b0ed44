-- How a count rises.
use Rattle.std.proofs.Common.{◌≡◌, ℕ, ◌+◌, ◌<◌, ◌≤◌, min, arith, ap, ◌∙◌}
use Rattle.ent_cells.specs.Count.{Counts, CountsAtMost, most}

none_by : (a m : ℕ) → a ≤ m → a ≡ min (a + 0) m
none_by a m h = omega arith

pub counts_none : (a : ℕ) → Counts a a 0
counts_none a h = none_by a most h

within_by : (a b n m : ℕ) → b ≡ min (a + n) m → b ≤ m
within_by a b n m e = omega (arith, e)

more_by : (a b c n m : ℕ) → b ≡ min (a + n) m → c ≡ min (b + 1) m → c ≡ min (a + (n + 1)) m
more_by a b c n m e f = omega (arith, e, f)

pub counts_more : (a b c n : ℕ) → Counts a b n → Counts b c 1 → Counts a c (n + 1)
counts_more a b c n f g h = more_by a b c n most (f h) (g (within_by a b n most (f h)))

least_by : (a b n k m : ℕ) → a ≤ m → b ≡ min (a + n) m → n ≤ k → (a ≤ b) × (b ≤ min (a + k) m)
least_by a b n k m h e l = (omega (arith, e), omega (arith, e))

pub at_most : (a b n k : ℕ) → Counts a b n → n ≤ k → CountsAtMost a b k
at_most a b n k f l h = least_by a b n k most h (f h) l

pub none_at_most : (a k : ℕ) → CountsAtMost a a k
none_at_most a k = at_most a a 0 k (counts_none a) (omega arith)

last_by : (a b c n k m : ℕ) → a ≤ m → b ≡ min (a + n) m → b ≤ c → c ≤ min (b + 1) m → n < k → (a ≤ c) × (c ≤ min (a + k) m)
last_by a b c n k m h e l u s = (omega (arith, e), omega (arith, e))

-- one more is tried
pub at_most_more : (a b c n k : ℕ) → Counts a b n → CountsAtMost b c 1 → n < k → CountsAtMost a c k
at_most_more a b c n k f g s h =
    let r = g (within_by a b n most (f h)) in
    last_by a b c n k most h (f h) r.0 r.1 s

pub counts_as : (a b n k : ℕ) → Counts a b n → n ≡ k → Counts a b k
counts_as a b n k f e h = f h ∙ ap (λ (i : ℕ). min (a + i) most) e

pub at_most_as : (a b n k : ℕ) → CountsAtMost a b n → n ≡ k → CountsAtMost a b k
at_most_as a b n k f e h = let r = f h in (r.0, rw e at r.1)
