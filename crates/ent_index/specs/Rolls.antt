-- Sets of cells as bits of words.
use Rattle.std.specs.Prelude.{ℕ, zero, suc, ◌+◌, ◌*◌, ◌/◌, ◌%◌, List, [], ◌∷◌, Bool, cond, nat_eq}
use Rattle.std.specs.List.{flat_map, list_any}
use Rattle.std.specs.Ordering.{is_eq, nat_cmp}
use Rattle.ent_index.specs.declared.words.Word.{Word}

-- whether a number is among these
abbrev pub is_among : List ℕ → ℕ → Bool
is_among numbers n = list_any (λ x. nat_eq x n) numbers

-- whether a cell is among these
abbrev pub is_member : List ℕ → ℕ → Bool
is_member cells c = list_any (λ x. is_eq (nat_cmp c x)) cells

-- so many numbers from a first one on: those whose bits are set, the lowest bit being the first one's
unfoldable pub set_from : ℕ → ℕ → ℕ → List ℕ
set_from zero first bits = []
set_from (suc more) first bits = cond (nat_eq (bits % 2) 1) (first ∷ set_from more (first + 1) (bits / 2)) (set_from more (first + 1) (bits / 2))

-- the cells of a word: of the 64 from 64 times its place on those whose bits are set, in rising order
unfoldable pub cells_in : Word → List ℕ
cells_in word = set_from 64 (64 * word.place) word.bits

-- the cells of words
abbrev pub cells_of : List Word → List ℕ
cells_of words = flat_map cells_in words
