-- What a command does to a service, and what a question tells of it.
use Rattle.std.specs.Prelude.{◌≡◌, ℕ, IfOk, Option, Some, None, Result, Ok, Err}
use Rattle.std.specs.declared.alloc.AllocError.{AllocError}
use Rattle.ent_cells.specs.Count.{CountsAtMost}
use Rattle.ent_report.specs.Desk.{Desked}
use Rattle.ent_report.specs.Kept as desk
use Rattle.ent_report.specs.World.{World}
use Rattle.ent_table.specs.State.{State}
use Rattle.ent_line.specs.Answering.{reply_view}
use Rattle.ent_command.specs.Asked as asked
use Rattle.ent_command.specs.Asked.{Question}
use Rattle.ent_line.specs.Commands.{Told}
use Rattle.ent_line.specs.Kept as kept
use Rattle.ent_line.specs.Replies.{Answer, answered}
use Rattle.ent_line.specs.Work.{IsWorked, command_work}
use Rattle.ent_line.specs.declared.reply.Reply.{Reply}

-- the reply and the world of the new service are what the command makes of the world of the old one, or memory is
-- wanting and the world is as before
abbrev pub Replies : (World → Answer × World) → Desked → Desked → Result Reply AllocError → Type 0
Replies command old new (Ok reply) = (reply_view reply, new.world) ≡ command old.world
Replies command old new (Err e) = new.world ≡ old.world

-- the reply is the answer to a question in the service's world, which stays
abbrev pub Answers : (World → Told) → Desked → Desked → Result Reply AllocError → Type 0
Answers question old new result = Replies (λ w. (answered (question w), w)) old new result

-- the reply tells that, or memory is wanting
abbrev pub TellsThat : Told → Result Reply AllocError → Type 0
TellsThat told result = IfOk result (λ reply. reply_view reply ≡ answered told)

-- the reply tells what the question tells in the service's world, or memory is wanting
abbrev pub Tells : (World → Told) → Desked → Result Reply AllocError → Type 0
Tells question service result = TellsThat (question service.world) result

-- the count of evaluations stays, or rose by what is asked for at most
abbrev pub IsWorkedAtMost : Option ℕ → ℕ → ℕ → Type 0
IsWorkedAtMost None before after = after ≡ before
IsWorkedAtMost (Some n) before after = CountsAtMost before after n

-- it became what the reply says of it, or memory is wanting
abbrev pub IsWorkedBy : Option ℕ → ℕ → ℕ → Result Reply AllocError → Type 0
IsWorkedBy work before after (Ok reply) = IsWorked work before after (reply_view reply)
IsWorkedBy work before after (Err e) = IsWorkedAtMost work before after

-- the count of a service became what is asked for in its state
abbrev pub Works : (State → Option ℕ) → Desked → Desked → Result Reply AllocError → Type 0
Works work old new result = IsWorkedBy (work old.world.state) old.evaluations new.evaluations result

-- it became what a question asks for
abbrev pub WorksFor : Question → Desked → Desked → Result Reply AllocError → Type 0
WorksFor question old new result = Works (λ s. command_work s (asked.question question)) old new result

-- none of the tables that the desk of a service has is forgotten
abbrev pub Keeps : Desked → Desked → Type 0
Keeps old new = desk.Keeps old new

-- the reply says which are, and where memory is wanting none is
abbrev pub RemembersBy : Desked → Desked → Result Reply AllocError → Type 0
RemembersBy old new (Ok reply) = kept.Remembers old new (reply_view reply)
RemembersBy old new (Err e) = Keeps old new
