-- The count of evaluations, which `work` tells: what a line does to it.
use Rattle.std.specs.Prelude.{◌≡◌, ℕ, ◌≤◌, List, length, nat_lt, if◌then◌else◌, Option, Some, None, option_and_then, option_map, Result, Ok, Err}
use Rattle.ent_cells.specs.Count.{raised}
use Rattle.ent_profile.specs.Asks.{asks}
use Rattle.ent_table.specs.Counted.{touched_count}
use Rattle.ent_table.specs.State.{State, answer_at}
use Rattle.ent_table.specs.Step as table
use Rattle.ent_table.specs.declared.edit.Edit.{Edit}
use Rattle.ent_table.specs.declared.edit.EditFault.{EditFault}
use Rattle.ent_command.specs.Asked as asked
use Rattle.ent_command.specs.Asked.{Command}
use Rattle.ent_command.specs.Edits.{edit_of}
use Rattle.ent_command.specs.Asking.{asked_by}
use Rattle.ent_wire.specs.Lines.{line_limit}
use Rattle.ent_line.specs.Replies as replies
use Rattle.ent_line.specs.Replies.{Answer}
use Rattle.ent_command.specs.declared.making.NoEdit.{NoEdit}

-- ---- how many evaluations are asked for, or that the count is to stay

-- by a step of an edit: one of each cell that it touches, unless the edit is refused
abbrev pub step_work : State → Result State EditFault → Option ℕ
step_work s (Ok t) = Some (touched_count s t)
step_work s (Err fault) = None

-- by an edit, or by what makes none
abbrev pub edit_work : State → Result Edit NoEdit → Option ℕ
edit_work s (Ok edit) = step_work s (table.step s edit)
edit_work s (Err why) = None

-- by a command: by the edit that it makes; or one, for a request that can be read, also where it is explained, and for
-- a listed one that is. By any other question, `work` itself too, and a mark the count stays
abbrev pub command_work : State → Command → Option ℕ
command_work s (asked.change c) = edit_work s (edit_of c)
command_work s (asked.question (asked.ask d)) = option_map (λ request. 1) (asks d)
command_work s (asked.question (asked.explain whole d)) = option_map (λ request. 1) (asks d)
command_work s (asked.question (asked.explain_cell whole x)) = option_map (λ answer. 1) (answer_at s x)
command_work s other = None

-- by the command that is there
abbrev pub asked_work : State → Option (ℕ × Command) → Option ℕ
asked_work s x = option_and_then (λ y. command_work s y.1) x

-- by a line, unless it is too long
abbrev pub line_work : State → List ℕ → Option ℕ
line_work s line = if nat_lt line_limit (length line) then None else asked_work s (asked_by line)

-- ---- what becomes of the count

-- the count before and after an answer: it stays; or it rose by what is asked for, and by that at most where that is
-- refused, which is for want of memory alone. It rises to the greatest count and stays there
abbrev pub IsWorked : Option ℕ → ℕ → ℕ → Answer → Type 0
IsWorked None before after a = after ≡ before
IsWorked (Some n) before after (replies.refused refusal) = (before ≤ after) × (after ≤ raised before n)
IsWorked (Some n) before after a = after ≡ raised before n
