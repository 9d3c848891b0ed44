-- Names that are gathered in a set.
use Rattle.std.specs.Prelude.{◌≡◌, ℕ, List, ◌||◌}
use Rattle.std.specs.Borrow.{Bor}
use Rattle.std.specs.BTreeSet.{BTreeSet}
use Rattle.ent_policy.specs.Limits.{is_among}
use Rattle.ent_policy.specs.proofs_only.Order.{has_id}

-- a set has some names, and no other
abbrev pub HasNames : List (List ℕ) → BTreeSet (Bor (List ℕ)) → Type 0
HasNames names s = (id : List ℕ) → has_id s id ≡ is_among names id

-- a set has the names that another has, and these
pub record Adds (before : BTreeSet (Bor (List ℕ))) (names : List (List ℕ)) (after : BTreeSet (Bor (List ℕ))) : Type 0 where
  pub known : (id : List ℕ) → has_id after id ≡ (has_id before id || is_among names id)
