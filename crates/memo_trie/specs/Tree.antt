-- A tree of ways: at each place a question, with a branch for each number that it found, the end of a way, or nothing yet.
use Rattle.std.specs.Prelude.{◌≡◌, ◌<◌, ◌⊎◌, ℕ, List, [], ◌∷◌, Option, Some, None, if◌then◌else◌, length, nat_eq, slice_get}
use Rattle.std.specs.BTreeMap as tree
use Rattle.std.specs.Ordering.{nat_cmp}
use Rattle.memo_trie.specs.declared.fork.Fork.{Fork}
use Rattle.memo_trie.specs.declared.node.Node.{Node}
use Rattle.memo_trie.specs.declared.node.Node.TheVariants.{Ask, Leaf, Nothing}

-- a question, and the number of what it found
pub record Turn (K : Type 0) : Type 0 where
  pub key : K
  pub number : ℕ

-- the place to which a number leads
abbrev pub branch_of : {K : Type 0} → Fork K → ℕ → Option ℕ
branch_of f number = if nat_eq number f.number then Some f.below else tree.get nat_cmp f.others number

-- a question has one branch more
abbrev pub AddsBranch : {K : Type 0} → Fork K → Fork K → ℕ → ℕ → Type 0
AddsBranch old new number below = (new.key ≡ old.key) × ((n : ℕ) → branch_of new n ≡ (if nat_eq n number then Some below else branch_of old n))

-- a question has the same branches
abbrev pub IsSameFork : {K : Type 0} → Fork K → Fork K → Type 0
IsSameFork old new = (new.key ≡ old.key) × ((n : ℕ) → branch_of new n ≡ branch_of old n)

-- a question has this branch alone
abbrev pub IsOnlyBranch : {K : Type 0} → Fork K → ℕ → ℕ → Type 0
IsOnlyBranch f number below = (n : ℕ) → branch_of f n ≡ (if nat_eq n number then Some below else None)

module _ {K L : Type 0} where
  -- ---- what stands at a place

  abbrev pub key_in : Option (Node K L) → Option K
  key_in (Some (Ask f)) = Some f.key
  key_in _ = None

  abbrev pub leaf_in : Option (Node K L) → Option L
  leaf_in (Some (Leaf l)) = Some l
  leaf_in _ = None

  abbrev pub next_in : Option (Node K L) → ℕ → Option ℕ
  next_in (Some (Ask f)) number = branch_of f number
  next_in _ number = None

  -- the question at a place
  abbrev pub key_at : List (Node K L) → ℕ → Option K
  key_at nodes n = key_in (slice_get nodes n)

  -- what stands at the end of a way
  abbrev pub leaf_at : List (Node K L) → ℕ → Option L
  leaf_at nodes n = leaf_in (slice_get nodes n)

  -- where a number leads from a place
  abbrev pub next_at : List (Node K L) → ℕ → ℕ → Option ℕ
  next_at nodes n number = next_in (slice_get nodes n) number

  -- each branch leads to a later place, and no other branch leads there
  pub record IsTree (nodes : List (Node K L)) : Type 0 where
    pub rises : (n number m : ℕ) → next_at nodes n number ≡ Some m → (n < m) × (m < length nodes)
    pub single : (a b number other m : ℕ) → next_at nodes a number ≡ Some m → next_at nodes b other ≡ Some m → (a ≡ b) × (number ≡ other)

  -- no test tells what stands at a place from what stood there
  pub record IsAlike (old new : Option (Node K L)) : Type 0 where
    pub key_is : key_in new ≡ key_in old
    pub leaf_is : leaf_in new ≡ leaf_in old
    pub next_is : (n : ℕ) → next_in new n ≡ next_in old n

  -- what stands at a place has one branch more
  pub record AddsTo (old new : Node K L) (key : K) (number below : ℕ) : Type 0 where
    pub key_is : key_in (Some new) ≡ Some key
    pub key_was : (k : K) → key_in (Some old) ≡ Some k → k ≡ key
    pub no_leaf : leaf_in (Some new) ≡ None
    pub was_none : leaf_in (Some old) ≡ None
    pub was_free : next_in (Some old) number ≡ None
    pub branches : (n : ℕ) → next_in (Some new) n ≡ (if nat_eq n number then Some below else next_in (Some old) n)

  -- ---- ways

  -- a way leads from the first place to this one; its last turn comes first
  abbrev pub Reaches : List (Node K L) → ℕ → List (Turn K) → Type 0
  Reaches nodes n [] = n ≡ 0
  Reaches nodes n (turn ∷ before) = (b : ℕ) × ((key_at nodes b ≡ Some turn.key) × ((next_at nodes b turn.number ≡ Some n) × Reaches nodes b before))

  -- a way leads to this end
  abbrev pub Leads : List (Node K L) → List (Turn K) → L → Type 0
  Leads nodes way leaf = (n : ℕ) × ((leaf_at nodes n ≡ Some leaf) × Reaches nodes n way)

  -- a place is met on a way to another one
  abbrev pub IsOnWay : List (Node K L) → ℕ → ℕ → List (Turn K) → Type 0
  IsOnWay nodes n end [] = n ≡ end
  IsOnWay nodes n end (turn ∷ before) =
      (n ≡ end) ⊎ ((b : ℕ) × ((key_at nodes b ≡ Some turn.key) × ((next_at nodes b turn.number ≡ Some end) × IsOnWay nodes n b before)))

  -- ---- changes

  -- the same ways lead to the same ends
  abbrev pub LeadsAsBefore : List (Node K L) → List (Node K L) → Type 0
  LeadsAsBefore old new = (way : List (Turn K)) (leaf : L) → (Leads old way leaf → Leads new way leaf) × (Leads new way leaf → Leads old way leaf)

  -- each question was there before, or is this one
  abbrev pub AsksAtMost : K → List (Node K L) → List (Node K L) → Type 0
  AsksAtMost key old new = (n : ℕ) (k : K) → key_at new n ≡ Some k → (key_at old n ≡ Some k) ⊎ (k ≡ key)

  -- the same ways lead to the same ends, and the same questions are asked
  pub record Stays (old new : List (Node K L)) : Type 0 where
    pub leads : LeadsAsBefore old new
    pub asks : (n : ℕ) → key_at new n ≡ key_at old n

  -- one branch more, to a place where nothing stands yet
  pub record Grows (old new : List (Node K L)) (place : ℕ) (turn : Turn K) (below : ℕ) : Type 0 where
    pub leads : LeadsAsBefore old new
    pub asks : AsksAtMost turn.key old new
    pub reaches : (way : List (Turn K)) → Reaches old place way → Reaches new below (turn ∷ way)
    pub nothing : slice_get new below ≡ Some Nothing

  -- a way leads to this end, and each other one as before
  pub record Ends (old new : List (Node K L)) (way : List (Turn K)) (leaf : L) : Type 0 where
    pub there : Leads new way leaf
    pub stay : (w : List (Turn K)) (l : L) → Leads old w l → Leads new w l
    pub others : (w : List (Turn K)) (l : L) → Leads new w l → Leads old w l ⊎ ((w ≡ way) × (l ≡ leaf))
    pub asks : (n : ℕ) → key_at new n ≡ key_at old n
