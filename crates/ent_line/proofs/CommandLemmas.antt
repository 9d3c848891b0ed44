-- What asks for no command has one of three refusals; and a refused line changes nothing.
use Rattle.std.proofs.Common.{◌≡◌, ◌≤◌, ℕ, List, length, Bool, true, false, Option, Some, None, Result, Ok, Err, refl, sym, ap, subst, ◌∙◌, inl, inr}
use Rattle.std.specs.Prelude.{codes, if◌then◌else◌, nat_lt}
use Rattle.std.proofs.lemmas.Bool.{le-ltb}
use Rattle.serde_json.specs.Data.{Data}
use Rattle.ent_json.specs.Objects.{text_at}
use Rattle.ent_polform.specs.Objects.{need, must}
use Rattle.ent_table.specs.State.{State}
use Rattle.ent_table.specs.Step as table
use Rattle.ent_table.specs.declared.edit.Edit.{Edit}
use Rattle.ent_table.specs.declared.edit.EditFault.{EditFault}
use Rattle.ent_report.specs.World.{World}
use Rattle.ent_command.specs.Asked as asked
use Rattle.ent_command.specs.Asked.{Command, Form, IsOfCommands, begun, command_in, command_of, form_of, in_session}
use Rattle.ent_line.specs.Beside.{Beside}
use Rattle.ent_line.specs.Commands.{heard, made, requested, respond, run, settled, table_marked}
use Rattle.ent_command.specs.Edits.{edit_of}
use Rattle.ent_command.specs.Keys.{number_at}
use Rattle.ent_wire.specs.Lines.{line_limit}
use Rattle.ent_line.specs.Replies as replies
use Rattle.ent_line.specs.Replies.{Answer, accepted, answered, refused, text}
use Rattle.ent_line.specs.Step.{Answers, data_of}
use Rattle.ent_command.specs.declared.making.NoEdit.{NoEdit}
use Rattle.ent_command.specs.declared.making.NoEdit.TheVariants as no_edit
use Rattle.ent_wire.specs.declared.refusal.Refusal.{Refusal}
use Rattle.ent_wire.specs.declared.refusal.Refusal.TheVariants.{Shape, TooLong, UnknownSession}

-- ---- what asks for no command

abbrev IfRefused : {A : Type 0} → Result A Refusal → Type 0
IfRefused (Ok x) = Unit {0}
IfRefused (Err why) = IsOfCommands why

-- its refusal, if it is one, is one of the three
record IsNamed {A : Type 0} (r : Result A Refusal) : Type 0 where
  is : IfRefused r

need_named : {A : Type 0} (o : Option A) → IsNamed (need Shape o)
need_named (Some x) = record { is = tt }
need_named None = record { is = inl refl }

must_named : {A : Type 0} (b : Bool) (r : Result A Refusal) → IsNamed r → IsNamed (must Shape b r)
must_named true r p = p
must_named false r p = record { is = inl refl }

command_named : (o : Option (Form Command)) (d : Data) → IsNamed (command_of o d)
command_named None d = record { is = inr (inl refl) }
command_named (Some form) d = must_named _ _ (need_named (form.asked d))

known_named : (known : Bool) (x : ℕ × Command) → IsNamed (must UnknownSession known (Ok x))
known_named true x = record { is = tt }
known_named false x = record { is = inr (inr refl) }

session_named : (session : Option ℕ) (r : Result Command Refusal) → IsNamed r → IsNamed (in_session session r)
session_named session (Err why) p = record { is = p.is }
session_named None (Ok command) p = record { is = inr (inr refl) }
session_named (Some session) (Ok command) p = known_named (nat_lt session 16) (session, command)

begun_named : (word : Option (List ℕ)) (session : Option (Option ℕ)) (d : Data) → IsNamed (begun word session d)
begun_named None session d = record { is = inl refl }
begun_named (Some word) None d = record { is = inl refl }
begun_named (Some word) (Some session) d = session_named session (command_of (form_of word) d) (command_named (form_of word) d)

-- what asks for no command of a session has one of three refusals
pub refusal_is : (d : Data) (why : Refusal) → command_in d ≡ Err why → IsOfCommands why
unfolding command_in
refusal_is d why e = (subst IsNamed e (begun_named (text_at (codes "do") d) (number_at (codes "session") 0 d) d)).is

-- ---- a refused line

-- an answer that is no edit and no mark
abbrev pub IsQuiet : Answer → Type 0
IsQuiet (accepted n m) = ⊥
IsQuiet (replies.marked n) = ⊥
IsQuiet (refused why) = Unit {0}
IsQuiet (text s) = Unit {0}

-- what a question tells is
pub answered_quiet : (r : Result Data Refusal) → IsQuiet (answered r)
answered_quiet (Ok d) = tt
answered_quiet (Err why) = tt

-- a refusal leaves the world
abbrev Keeps : World → Answer × World → Type 0
Keeps w y = (why : Refusal) → y.0 ≡ refused why → y.1 ≡ w

settled_keeps : (w : World) (r : Result State EditFault) → Keeps w (settled w r)
settled_keeps w (Ok t) = λ why e. absurd (subst IsQuiet (sym e) tt)
settled_keeps w (Err fault) = λ why e. refl

made_keeps : (w : World) (r : Result Edit NoEdit) → Keeps w (made w r)
made_keeps w (Ok edit) = settled_keeps w (table.step w.state edit)
made_keeps w (Err (no_edit.Faulty fault)) = λ why e. refl
made_keeps w (Err (no_edit.Unreadable fault)) = λ why e. refl
made_keeps w (Err no_edit.Memory) = λ why e. refl

run_keeps : (n : Beside) (w : World) (x : ℕ) (c : Command) → Keeps w (run n w x c)
unfolding run table_marked
run_keeps n w x (asked.change c) = made_keeps w (edit_of c)
run_keeps n w x (asked.question q) = λ why e. refl
run_keeps n w x asked.mark = λ why e. absurd (subst IsQuiet (sym e) tt)

requested_keeps : (n : Beside) (w : World) (r : Result (ℕ × Command) Refusal) → Keeps w (requested n w r)
requested_keeps n w (Ok x) = run_keeps n w x.0 x.1
requested_keeps n w (Err refusal) = λ why e. refl

heard_keeps : (n : Beside) (w : World) (o : Option Data) → Keeps w (heard n w o)
heard_keeps n w None = λ why e. refl
heard_keeps n w (Some d) = requested_keeps n w (command_in d)

chosen_keeps : (n : Beside) (w : World) (long : Bool) (o : Option Data) → Keeps w (if long then (refused TooLong, w) else heard n w o)
chosen_keeps n w true o = λ why e. refl
chosen_keeps n w false o = heard_keeps n w o

-- a refused line leaves the world
pub refusal_keeps : (w v : World) (line : List ℕ) (why : Refusal) → Answers w line (refused why) v → v ≡ w
unfolding respond
refusal_keeps w v line why (n, inl is) =
    ap (λ y. y.1) is ∙ chosen_keeps n w (nat_lt line_limit (length line)) (data_of line) why (sym (ap (λ y. y.0) is))
refusal_keeps w v line why (n, inr (refusal, same, short)) = same

-- a line that isn't too long is answered by what was read of it
pub short_heard : (n : Beside) (w : World) (line : List ℕ) → length line ≤ line_limit → respond n w line ≡ heard n w (data_of line)
unfolding respond
short_heard n w line short = ap (λ (b : Bool). if b then (refused TooLong, w) else heard n w (data_of line)) (le-ltb line_limit (length line) short)
