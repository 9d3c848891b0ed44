-- Which edit a line makes of the state, if it makes one.
use Rattle.std.proofs.Common.{◌≡◌, ◌≤◌, ℕ, List, length, Bool, true, false, Option, Some, None, Result, Ok, Err, refl, sym, ap, subst, inl, inr}
use Rattle.std.specs.Prelude.{◌⊎◌, if◌then◌else◌, nat_lt}
use Rattle.std.proofs.lemmas.Bool.{le-ltb}
use Rattle.serde_json.specs.Data.{Data}
use Rattle.ent_table.specs.State.{State}
use Rattle.ent_table.specs.Step as table
use Rattle.ent_table.specs.declared.edit.Edit.{Edit}
use Rattle.ent_table.specs.declared.edit.EditFault.{EditFault}
use Rattle.ent_dump.specs.Edits.{edit_data}
use Rattle.ent_report.specs.World.{World}
use Rattle.ent_command.specs.Asked as asked
use Rattle.ent_command.specs.Asked.{Change, Command, command_in}
use Rattle.ent_line.specs.Beside.{Beside}
use Rattle.ent_line.specs.Commands.{edited, heard, made, requested, respond, run, settled, table_marked}
use Rattle.ent_command.specs.Edits.{edit_of}
use Rattle.ent_wire.specs.Lines.{line_limit}
use Rattle.ent_line.specs.Replies.{Answer, refused}
use Rattle.ent_line.specs.Step.{Answers, data_of}
use Rattle.ent_command.specs.declared.making.NoEdit.{NoEdit}
use Rattle.ent_command.specs.declared.making.NoEdit.TheVariants as no_edit
use Rattle.ent_wire.specs.declared.refusal.Refusal.{Refusal}
use Rattle.ent_wire.specs.declared.refusal.Refusal.TheVariants.{TooLong}
use Rattle.law_restart.specs.Carried.{IsRead}
use Rattle.law_restart.proofs.Categories.{IsOfLine, line_is}
use Rattle.law_restart.proofs.Read.{asked_read}
use Rattle.law_restart.proofs.Utf8Data.{IsUtf8Data}
use Rattle.law_restart.proofs.Utf8Edits.{asked_utf8}

-- a change that makes an edit is answered as that edit
pub run_edits : (n : Beside) (w : World) (session : ℕ) (c : Change) (e : Edit) → edit_of c ≡ Ok e → run n w session (asked.change c) ≡ edited w e
unfolding run
run_edits n w session c e h = ap (made w) h

-- a line that isn't too long is answered by what is read of it
pub short_heard : (n : Beside) (w : World) (line : List ℕ) → length line ≤ line_limit → respond n w line ≡ heard n w (data_of line)
unfolding respond
short_heard n w line short = ap (λ (b : Bool). if b then (refused TooLong, w) else heard n w (data_of line)) (le-ltb line_limit (length line) short)

-- ---- what becomes of the state

-- what a line says of an edit: the edit carries what a line can say, and its own line is UTF-8
pub record IsSaid (e : Edit) : Type 0 where
  pub read : IsRead e
  pub utf8 : IsUtf8Data (edit_data e)

-- the state stays, or is what an edit that was read makes of it
abbrev pub Moves : State → State → Type 0
Moves s t = (t ≡ s) ⊎ ((e : Edit) × IsSaid e × (table.step s e ≡ Ok t))

settled_moves : (w : World) (e : Edit) → IsSaid e → (r : Result State EditFault) → table.step w.state e ≡ r → Moves w.state (settled w r).1.state
settled_moves w e good (Ok t) is = inr (e, good, is)
settled_moves w e good (Err fault) is = inl refl

made_moves : (w : World) (r : Result Edit NoEdit) → ((e : Edit) → r ≡ Ok e → IsSaid e) → Moves w.state (made w r).1.state
made_moves w (Ok e) good = settled_moves w e (good e refl) (table.step w.state e) refl
made_moves w (Err (no_edit.Faulty fault)) good = inl refl
made_moves w (Err (no_edit.Unreadable fault)) good = inl refl
made_moves w (Err no_edit.Memory) good = inl refl

run_moves : (n : Beside) (w : World) (d : Data) (session : ℕ) (c : Command) → IsOfLine d → command_in d ≡ Ok (session, c) → Moves w.state (run n w session c).1.state
unfolding run table_marked
run_moves n w d session (asked.change c) line asks = made_moves w (edit_of c) (λ e makes. record { read = asked_read d session c e line asks makes; utf8 = asked_utf8 d session c e line asks makes })
run_moves n w d session (asked.question q) line asks = inl refl
run_moves n w d session asked.mark line asks = inl refl

requested_moves : (n : Beside) (w : World) (d : Data) (r : Result (ℕ × Command) Refusal) → IsOfLine d → command_in d ≡ r → Moves w.state (requested n w r).1.state
requested_moves n w d (Ok x) line is = run_moves n w d x.0 x.1 line is
requested_moves n w d (Err refusal) line is = inl refl

heard_moves : (n : Beside) (w : World) (o : Option Data) → ((d : Data) → o ≡ Some d → IsOfLine d) → Moves w.state (heard n w o).1.state
heard_moves n w None line = inl refl
heard_moves n w (Some d) line = requested_moves n w d (command_in d) (line d refl) refl

chosen_moves : (n : Beside) (w : World) (long : Bool) (o : Option Data) → ((d : Data) → o ≡ Some d → IsOfLine d)
    → Moves w.state (if long then (refused TooLong, w) else heard n w o).1.state
chosen_moves n w true o line = inl refl
chosen_moves n w false o line = heard_moves n w o line

-- a line leaves the state, or makes an edit of it
pub line_moves : (w v : World) (line : List ℕ) (a : Answer) → Answers w line a v → Moves w.state v.state
unfolding respond
line_moves w v line a (n, inl is) = subst (λ (y : Answer × World). Moves w.state y.1.state) (sym is) (chosen_moves n w (nat_lt line_limit (length line)) (data_of line) (line_is line))
line_moves w v line a (n, inr (refusal, same, short)) = inl (ap (λ (u : World). u.state) same)
