-- How the words of a roll are kept.
use Rattle.std.specs.Prelude.{◌≡◌, ℕ, ◌+◌, ◌^◌, ◌<◌, ◌≤◌, Bool, List, [], ◌∷◌, length, nat_eq, not, slice_index_or}
use Rattle.ent_index.specs.declared.words.Word.{Word}

-- their places strictly rise, from a least one on, and none is beyond the cells below 2 ^ 32; a word may be empty
abbrev pub AreWords : ℕ → List Word → Type 0
AreWords least [] = least ≤ 67108864
AreWords least (w ∷ ws) = (least ≤ w.place) × (w.bits < 2 ^ 64) × AreWords (w.place + 1) ws

-- a word isn't empty
abbrev pub has_cells : Word → Bool
has_cells w = not (nat_eq w.bits 0)

-- a word that may stand among them
pub record IsWord (w : Word) : Type 0 where
  pub place : w.place < 67108864
  pub fits : w.bits < 2 ^ 64

-- the words in front of a seat have places before this one, and the others none before it
pub record IsSeat (place : ℕ) (words : List Word) (seat : ℕ) : Type 0 where
  pub within : seat ≤ length words
  pub before : (k : ℕ) (d : Word) → k < seat → (slice_index_or words k d).place < place
  pub behind : (k : ℕ) (d : Word) → seat ≤ k → k < length words → place ≤ (slice_index_or words k d).place

-- there is a word at a seat, and it is the one of a place
pub record IsOf (place : ℕ) (words : List Word) (seat : ℕ) : Type 0 where
  pub within : seat < length words
  pub at : (d : Word) → (slice_index_or words seat d).place ≡ place
