-- Each reply is written as one line.
use Rattle.std.proofs.Common.{◌≡◌, ℕ, List, ◌++◌, length, Bool, true, false, Option, Some, None, Result, Ok, Err, refl, sym, ap, subst, inl, inr}
use Rattle.std.specs.Prelude.{codes, decimal, if◌then◌else◌, nat_le, nat_lt}
use Rattle.std.specs.List.{list_all}
use Rattle.serde_json.specs.Data.{Data}
use Rattle.ent_table.specs.State.{State}
use Rattle.ent_table.specs.Step as table
use Rattle.ent_table.specs.declared.edit.Edit.{Edit}
use Rattle.ent_table.specs.declared.edit.EditFault.{EditFault}
use Rattle.ent_report.specs.World.{World}
use Rattle.ent_command.specs.Asked as asked
use Rattle.ent_command.specs.Asked.{Command, command_in}
use Rattle.ent_line.specs.Beside.{Beside}
use Rattle.ent_line.specs.Commands.{heard, made, requested, respond, run, settled, table_marked, told}
use Rattle.ent_command.specs.Edits.{edit_of}
use Rattle.ent_wire.specs.Lines.{IsOneLine, line_limit}
use Rattle.ent_wire.specs.Refusals.{code_of, sub_of}
use Rattle.ent_line.specs.Replies as replies
use Rattle.ent_line.specs.Replies.{Answer, accepted, answered, line_of, refusal_line, refused, text}
use Rattle.ent_line.specs.Step.{Answers, data_of}
use Rattle.ent_command.specs.declared.making.NoEdit.{NoEdit}
use Rattle.ent_command.specs.declared.making.NoEdit.TheVariants as no_edit
use Rattle.ent_wire.specs.declared.refusal.Refusal.{Refusal}
use Rattle.ent_wire.specs.declared.refusal.Refusal.TheVariants.{TooLong}
use Rattle.ent_line.proofs.PrintedLemmas.{ArePrinted, IsPrintedLine, behind, decimal_printed, one_line, text_printed, word_printed}

-- the text of an answer has no control character
abbrev IsPrinted : Answer → Type 0
IsPrinted (accepted n m) = Unit {0}
IsPrinted (refused why) = Unit {0}
IsPrinted (replies.marked n) = Unit {0}
IsPrinted (text s) = ArePrinted s

-- what tells JSON is
answered_printed : (r : Result Data Refusal) → IsPrinted (answered r)
answered_printed (Ok d) = text_printed d
answered_printed (Err why) = tt

-- ---- commands and lines

settled_printed : (w : World) (r : Result State EditFault) → IsPrinted (settled w r).0
settled_printed w (Ok t) = tt
settled_printed w (Err fault) = tt

made_printed : (w : World) (r : Result Edit NoEdit) → IsPrinted (made w r).0
made_printed w (Ok edit) = settled_printed w (table.step w.state edit)
made_printed w (Err (no_edit.Faulty fault)) = tt
made_printed w (Err (no_edit.Unreadable fault)) = tt
made_printed w (Err no_edit.Memory) = tt

run_printed : (n : Beside) (w : World) (x : ℕ) (c : Command) → IsPrinted (run n w x c).0
unfolding run table_marked
run_printed n w x (asked.change c) = made_printed w (edit_of c)
run_printed n w x (asked.question q) = answered_printed (told n w x q)
run_printed n w x asked.mark = tt

requested_printed : (n : Beside) (w : World) (r : Result (ℕ × Command) Refusal) → IsPrinted (requested n w r).0
requested_printed n w (Ok x) = run_printed n w x.0 x.1
requested_printed n w (Err refusal) = tt

heard_printed : (n : Beside) (w : World) (o : Option Data) → IsPrinted (heard n w o).0
heard_printed n w None = tt
heard_printed n w (Some d) = requested_printed n w (command_in d)

chosen_printed : (n : Beside) (w : World) (long : Bool) (o : Option Data) → IsPrinted (if long then (refused TooLong, w) else heard n w o).0
chosen_printed n w true o = tt
chosen_printed n w false o = heard_printed n w o

answer_printed : (w v : World) (line : List ℕ) (a : Answer) → Answers w line a v → IsPrinted a
unfolding respond
answer_printed w v line a (n, inl is) =
    subst IsPrinted (sym (ap (λ (y : Answer × World). y.0) is)) (chosen_printed n w (nat_lt line_limit (length line)) (data_of line))
answer_printed w v line a (n, inr (refusal, same, short)) = subst IsPrinted (sym refusal) tt

-- ---- what is written

-- a word, a number, and what follows
numbered : (word more : List ℕ) (n : ℕ) → list_all (nat_le 32) word ≡ true → IsPrintedLine more → IsPrintedLine (word ++ (decimal n ++ more))
numbered word more n h line = behind word (decimal n ++ more) (word_printed word h) (behind (decimal n) more (decimal_printed n) line)

closed : IsPrintedLine (codes "}\n")
closed = record { line = codes "}"; printed = word_printed (codes "}") refl; is = refl }

refusal_printed : (code : ℕ) (sub : Option ℕ) → IsPrintedLine (refusal_line code sub)
refusal_printed code None = numbered (codes "{\"refused\":") (codes "}\n") code refl closed
refusal_printed code (Some sub) = numbered (codes "{\"refused\":") (codes ",\"sub\":" ++ (decimal sub ++ codes "}\n")) code refl
    (numbered (codes ",\"sub\":") (codes "}\n") sub refl closed)

written : (a : Answer) → IsPrinted a → IsPrintedLine (line_of a)
written (accepted n m) h = numbered (codes "{\"changes\":") (codes ",\"serial\":" ++ (decimal m ++ codes "}\n")) n refl
    (numbered (codes ",\"serial\":") (codes "}\n") m refl closed)
written (refused why) h = refusal_printed (code_of why) (sub_of why)
written (replies.marked n) h = numbered (codes "{\"mark\":") (codes "}\n") n refl closed
written (text s) h = record { line = s; printed = h; is = refl }

-- the reply to a line is one line
pub told_in_one_line : (w v : World) (line : List ℕ) (a : Answer) → Answers w line a v → IsOneLine (line_of a)
told_in_one_line w v line a is = one_line (line_of a) (written a (answer_printed w v line a is))
