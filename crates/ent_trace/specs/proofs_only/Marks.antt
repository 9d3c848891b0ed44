-- Numbers that are marked by the stamp of a time: words of the code's own contracts.
use Rattle.std.specs.Prelude.{◌≡◌, ◌<◌, ◌≤◌, ◌++◌, ℕ, Bool, false, List, Option, None, Some, eqb, slice_get}
use Rattle.std.specs.List.{AllByRecursion, list_any}

-- whether a mark is there and is this stamp
abbrev pub is_stamp : ℕ → Option ℕ → Bool
is_stamp stamp None = false
is_stamp stamp (Some mark) = eqb mark stamp

-- the numbers are those whose mark is the stamp of now; no mark is of a later time, and 0 is of none
pub record AreMarked (stamp : ℕ) (marks numbers : List ℕ) : Type 0 where
  pub begun : 0 < stamp
  pub past : AllByRecursion (λ mark. mark ≤ stamp) marks
  pub told : (n : ℕ) → list_any (eqb n) numbers ≡ is_stamp stamp (slice_get marks n)

-- marks behind which others may stand that are of no time
abbrev pub HasRoom : List ℕ → List ℕ → Type 0
HasRoom old new = (more : List ℕ) × ((new ≡ old ++ more) × AllByRecursion (λ mark. mark ≡ 0) more)
