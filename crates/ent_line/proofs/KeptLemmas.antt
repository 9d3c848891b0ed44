-- Which tables of earlier serials a service still has.
use Rattle.std.proofs.Common.{◌≡◌, ℕ, List, Result, Ok, Err, refl, sym, ap, subst}
use Rattle.std.specs.declared.alloc.AllocError.{AllocError}
use Rattle.ent_report.specs.Desk.{Desked}
use Rattle.ent_table.specs.declared.edit.EditFault.{EditFault}
use Rattle.ent_table.specs.declared.edit.EditFault.TheVariants as faults
use Rattle.ent_line.specs.Answering.{reply_view}
use Rattle.ent_command.specs.Asked.{Question}
use Rattle.ent_line.specs.Beside.{Beside}
use Rattle.ent_line.specs.Commands.{told}
use Rattle.ent_line.specs.Kept.{Remembers}
use Rattle.ent_line.specs.Refusals.{refusal_of}
use Rattle.ent_line.specs.Replies as answers
use Rattle.ent_line.specs.Replies.{Answer, answered}
use Rattle.ent_wire.specs.declared.refusal.Refusal.{Refusal}
use Rattle.ent_line.specs.declared.reply.Reply.{Reply}
use Rattle.ent_line.specs.declared.reply.Reply.TheVariants as replies
use Rattle.ent_line.specs.proofs_only.Refusing.{EditRefused}
use Rattle.ent_line.specs.proofs_only.Replying.{Keeps, RemembersBy, Replies}
use Rattle.ent_line.proofs.CommandLemmas.{IsQuiet, answered_quiet}

-- an answer that is evaluated forgets nothing
pub ask_keeps : (old new : Desked) (n : ℕ) → new ≡ record old { evaluations = n } → Keeps old new
ask_keeps old new n is = subst (Keeps old) (sym is) (record { from = refl; each = λ m le. refl })

-- what is no edit and no mark forgets nothing
quiet_remembers : (old new : Desked) (a : Answer) → IsQuiet a → Keeps old new → Remembers old new a
quiet_remembers old new (answers.accepted n m) q kept = absurd q
quiet_remembers old new (answers.marked n) q kept = absurd q
quiet_remembers old new (answers.refused why) q kept = kept
quiet_remembers old new (answers.text s) q kept = kept

-- what answers a question forgets nothing
pub told_remembers : (old new : Desked) (n : Beside) (session : ℕ) (q : Question) (result : Result Reply AllocError)
    → Replies (λ w. (answered (told n w session q), w)) old new result → Keeps old new → RemembersBy old new result
told_remembers old new n session q (Ok reply) is kept =
    let quiet = answered_quiet (told n old.world session q) in
    quiet_remembers old new (reply_view reply) (subst IsQuiet (sym (ap (λ y. y.0) is)) quiet) kept
told_remembers old new n session q (Err e) is kept = kept

refused_remembers : (old new : Desked) (why : Refusal) (result : Result Reply AllocError) → result ≡ Ok (replies.Refused why) → Keeps old new
    → RemembersBy old new result
refused_remembers old new why result is kept = subst (RemembersBy old new) (sym is) kept

-- an edit that is refused forgets nothing
pub edit_remembers : (old new : Desked) (fault : EditFault) (result : Result Reply AllocError) → EditRefused fault result → Keeps old new
    → RemembersBy old new result
edit_remembers old new faults.Memory (Ok reply) is kept = absurd cc
edit_remembers old new faults.Memory (Err e) is kept = kept
edit_remembers old new faults.NotThere result is kept = refused_remembers old new (refusal_of faults.NotThere) result is kept
edit_remembers old new faults.AlreadyThere result is kept = refused_remembers old new (refusal_of faults.AlreadyThere) result is kept
edit_remembers old new faults.Limit result is kept = refused_remembers old new (refusal_of faults.Limit) result is kept
edit_remembers old new faults.Reserved result is kept = refused_remembers old new (refusal_of faults.Reserved) result is kept
edit_remembers old new faults.BadValue result is kept = refused_remembers old new (refusal_of faults.BadValue) result is kept
edit_remembers old new faults.UnknownModule result is kept = refused_remembers old new (refusal_of faults.UnknownModule) result is kept
