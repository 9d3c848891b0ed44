-- What becomes of a cell under its key, and of what is ready of it.
use Rattle.std.specs.Prelude.{◌≡◌, ℕ, List, [], Bool, false, not, Option, Some, None}
use Rattle.slab.specs.Slab.{Slab, Updates, get}
use Rattle.ent_request.specs.declared.key.ReadKey.{ReadKey}
use Rattle.ent_request.specs.Same.{same_answer}
use Rattle.ent_eval.specs.declared.who.Who.{Who}
use Rattle.ent_cells.specs.Cell.{Kept, Said, reads_any}
use Rattle.ent_cells.specs.Entries.{Entry}

-- no cell under any key
abbrev pub no_entries : Slab Entry
no_entries = record { slots = []; vacant_key = 0; capacity = 0 }

-- a cell of which nothing is ready
abbrev pub entry_of_cell : Who → Said → Entry
entry_of_cell who said = record { kept = record { who = who; said = said }; next = None }

-- a cell, once what is ready is said of it
abbrev pub settled_by : Kept → Option Said → Entry
settled_by kept None = record { kept = kept; next = None }
settled_by kept (Some said) = record { kept = record kept { said = said }; next = None }

abbrev pub settled : Entry → Entry
settled e = settled_by e.kept e.next

-- a cell, once what is ready is given up
abbrev pub given_up : Entry → Entry
given_up e = record e { next = None }

-- whether another answer is ready than the one that the cell has
abbrev pub changes_by : Kept → Option Said → Bool
changes_by kept None = false
changes_by kept (Some said) = not (same_answer kept.said.answer said.answer)

abbrev pub changes : Entry → Bool
changes e = changes_by e.kept e.next

-- there is a cell, and nothing is ready of it
abbrev pub IsFree : Option Entry → Type 0
IsFree None = ⊥
IsFree (Some e) = e.next ≡ None

-- whether there is a cell, and it reads one of some keys
abbrev pub touched_at : List ReadKey → Option Entry → Bool
touched_at keys None = false
touched_at keys (Some e) = reads_any keys e.kept

-- the cell under a key becomes what a change makes of it
abbrev pub Becomes : (Entry → Entry) → ℕ → Slab Entry → Slab Entry → Type 0
Becomes change key old new = (e : Entry) → get old key ≡ Some e → Updates old new key (Some (change e))

-- a cell was put in under a key that had none
abbrev pub Inserts : Entry → Slab Entry → Slab Entry → ℕ → Type 0
Inserts e old new key = (get old key ≡ None) × Updates old new key (Some e)
