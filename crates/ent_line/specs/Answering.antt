-- What is said of whatever answers lines: its replies as answers, and what it owes to lines that are too long.
use Rattle.std.specs.Prelude.{ℕ, ◌<◌, List, length, string_bytes}
use Rattle.ent_wire.specs.Lines.{line_limit}
use Rattle.ent_line.specs.Replies.{Answer, accepted, marked, refused, text}
use Rattle.ent_line.specs.Runs.{Handling}
use Rattle.ent_line.specs.declared.reply.Reply.{Reply}
use Rattle.ent_line.specs.declared.reply.Reply.TheVariants as replies

-- what a reply of the code says
abbrev pub reply_view : Reply → Answer
reply_view (replies.Accepted a) = accepted a.changes a.serial
reply_view (replies.Refused refusal) = refused refusal
reply_view (replies.Marked serial) = marked serial
reply_view (replies.Text s) = text (string_bytes s)

-- a line that is longer than a line may be is answered as any other such line
abbrev pub LongLinesAlike : {W : Type 0} → Handling W → Type 0
LongLinesAlike {W = W} Answers =
    (w v : W) (line other : List ℕ) (a : Answer) → line_limit < length line → line_limit < length other
    → Answers w line a v → Answers w other a v
