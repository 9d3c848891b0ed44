-- What the phases of an edit make of cells.
use Rattle.std.specs.Prelude.{◌≡◌, ℕ, List, Bool, cond, nat_eq, option_map, Option, Some}
use Rattle.std.specs.List.{list_any}
use Rattle.slab.specs.Slab.{Slab, get}
use Rattle.ent_request.specs.Looks.{Looks}
use Rattle.ent_cells.specs.Cell.{says}
use Rattle.ent_cells.specs.Entries.{Entry}
use Rattle.ent_cells.specs.proofs_only.Entries.{given_up}

-- whether a number is one of these
abbrev pub is_among : List ℕ → ℕ → Bool
is_among keys c = list_any (λ k. nat_eq c k) keys

-- what is under a key, changed if the key is one of these
abbrev pub changed_at : (Entry → Entry) → List ℕ → ℕ → Option Entry → Option Entry
changed_at change keys c o = cond (is_among keys c) (option_map change o) o

-- a cell, of which the fresh evaluation is ready
abbrev pub made_ready : Looks → Entry → Entry
made_ready looks e = record e { next = Some (says looks e.kept.who) }

-- of the cells under these keys their fresh evaluation is ready
abbrev pub IsPrepared : Looks → List ℕ → Slab Entry → Slab Entry → Type 0
IsPrepared looks keys old new = (c : ℕ) → get new c ≡ changed_at (made_ready looks) keys c (get old c)

-- the cells are as before, once what is ready of those under these keys is given up
abbrev pub KeepsCells : List ℕ → Slab Entry → Slab Entry → Type 0
KeepsCells keys old new = (c : ℕ) → changed_at given_up keys c (get new c) ≡ get old c
