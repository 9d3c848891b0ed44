-- How cells are laid out: a cell has an answer and a group, and the questions of the group say which keys the cell reads.
use Rattle.std.specs.Prelude.{◌≡◌, ◌≢◌, ℕ, List, map, Bool, true, false, not, IfSome, option_map, Option, Some, None}
use Rattle.std.specs.List.{list_any}
use Rattle.slab.specs.Slab.{Slab, get}
use Rattle.ent_request.specs.declared.answer.Answer.{Answer}
use Rattle.ent_eval.specs.declared.pdp.ListedEvaluation.{ListedEvaluation}
use Rattle.ent_request.specs.declared.question.Question.{Question}
use Rattle.ent_request.specs.Listed.{listed}
use Rattle.ent_request.specs.Questions.{AreNumbers, at_numbers, keys_at}
use Rattle.ent_request.specs.Same.{same_answer}
use Rattle.ent_index.specs.declared.groups.Groups.{Groups}
use Rattle.ent_index.specs.declared.wanted.Wanted.{Wanted}
use Rattle.ent_index.specs.Groups.{IsNamed, holds, is_wanted, numbers_of, reads_in}
use Rattle.ent_cells.specs.declared.cell.Cell.{Cell}
use Rattle.ent_cells.specs.declared.cell.Grouped.{Grouped}
use Rattle.ent_eval.specs.declared.who.Who.{Who}
use Rattle.ent_cells.specs.Cell.{Kept, Said}
use Rattle.ent_cells.specs.Entries.{Entry}

-- what an evaluation says of a request, with keys in place of the numbers of questions
abbrev pub said_in : List Question → Who → ListedEvaluation → Said
said_in questions x e = record { answer = e.answer; reads = keys_at (listed x.person x.action x.resource) (at_numbers questions e.asked); failed = e.failed }

module _ (questions : List Question) (groups : Groups) where
  -- what is said of a request, with keys in place of the group
  abbrev pub said_of : Who → Grouped → Said
  said_of x said = record { answer = said.answer; reads = reads_in questions groups x.person x.action x.resource said.group; failed = said.failed }

  -- a cell, with keys in place of groups
  abbrev pub entry_in : Cell → Entry
  entry_in cell = record { kept = record { who = cell.who; said = said_of cell.who cell.said }; next = option_map (said_of cell.who) cell.next }

  -- the cells, with keys in place of groups, whatever room there is for more
  abbrev pub seen : Slab Cell → Slab Entry
  seen cells = record { slots = map (option_map entry_in) cells.slots; vacant_key = 0; capacity = 0 }

  -- the group has the cell, and numbers of questions
  pub record IsGrouped (c : ℕ) (said : Grouped) : Type 0 where
    pub there : holds groups said.group c ≡ true
    pub within : AreNumbers questions (numbers_of groups said.group)

  -- the group of a cell has it, and that of what is ready of it, and it stands under its names
  pub record IsHeld (c : ℕ) (cell : Cell) : Type 0 where
    pub said : IsGrouped c cell.said
    pub next : IfSome cell.next (IsGrouped c)
    pub named : IsNamed groups cell.who.person cell.who.action cell.who.resource c

  -- so it is with each cell
  abbrev pub IsStore : Slab Cell → Type 0
  IsStore cells = (c : ℕ) (cell : Cell) → get cells c ≡ Some cell → IsHeld c cell

-- ---- steps of a change

-- the cells but one stay in their groups, which keep their questions, and under their names
pub record KeepsOthers (key : ℕ) (old new : Groups) : Type 0 where
  pub groups : (g c : ℕ) → c ≢ key → holds old g c ≡ true → (holds new g c ≡ true) × (numbers_of new g ≡ numbers_of old g)
  pub names : (person action resource : List ℕ) (c : ℕ) → c ≢ key → IsNamed old person action resource c → IsNamed new person action resource c

-- a cell stays in a group, which keeps its questions
abbrev pub StaysIn : Groups → Groups → ℕ → ℕ → Type 0
StaysIn old new g c = holds old g c ≡ true → (holds new g c ≡ true) × (numbers_of new g ≡ numbers_of old g)

-- a cell stays in one group, and under its names, and the others stay where they are
pub record KeepsIn (group key : ℕ) (old new : Groups) : Type 0 where
  pub own : StaysIn old new group key
  pub names : (person action resource : List ℕ) → IsNamed old person action resource key → IsNamed new person action resource key
  pub others : KeepsOthers key old new

-- the cell that is under the key now stays in its group, and under its names, and the others stay where they are
pub record KeepsCell (cells : Slab Cell) (key : ℕ) (old new : Groups) : Type 0 where
  pub own : (cell : Cell) → get cells key ≡ Some cell → StaysIn old new cell.said.group key
  pub names : (person action resource : List ℕ) → IsNamed old person action resource key → IsNamed new person action resource key
  pub others : KeepsOthers key old new

-- a cell, once what is ready of it is given up
abbrev pub unready : Cell → Cell
unready cell = record cell { next = None }

-- a cell, once what is ready is said of it
abbrev pub replaced_by : Cell → Option Grouped → Cell
replaced_by cell None = unready cell
replaced_by cell (Some said) = record cell { said = said; next = None }

abbrev pub replaced : Cell → Cell
replaced cell = replaced_by cell cell.next

-- whether another answer is ready than the one that the cell has
abbrev pub replaces_by : Cell → Option Grouped → Bool
replaces_by cell None = false
replaces_by cell (Some said) = not (same_answer cell.said.answer said.answer)

abbrev pub replaces : Cell → Bool
replaces cell = replaces_by cell cell.next

-- ---- cells that read what is wanted

-- whether there is a cell, and it reads what is wanted
abbrev pub wanted_at : Groups → List Wanted → Option Cell → Bool
wanted_at groups wanted None = false
wanted_at groups wanted (Some cell) = list_any (is_wanted cell.who.person cell.who.action cell.who.resource (numbers_of groups cell.said.group)) wanted

-- ---- a cell that is lent

-- its request, its answer, and whether a part of the evaluation failed by itself
abbrev pub shown : Cell → Who × (Answer × Bool)
shown cell = (cell.who, (cell.said.answer, cell.said.failed))

abbrev pub shown_kept : Kept → Who × (Answer × Bool)
shown_kept e = (e.who, (e.said.answer, e.said.failed))

abbrev pub shown_entry : Entry → Who × (Answer × Bool)
shown_entry e = shown_kept e.kept
