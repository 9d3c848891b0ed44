-- The sessions of a file.
use Rattle.std.specs.Prelude.{ℕ, Bool, true, false, List, [], ◌∷◌, ◌++◌, Option, Some, None, option_map, Result, Ok, Err}
use Rattle.std.specs.List.{before_first, flat_map, range_with_len, slice_split}
use Rattle.script_files.specs.Lines.{lines_of}
use Rattle.script_files.specs.Standing.{is_heading, misplaced}
use Rattle.script_files.specs.Texts.{written}
use Rattle.script_files.specs.declared.fault.SessionFault.{SessionFault}
use Rattle.script_files.specs.declared.fault.SessionFault.TheVariants.{Form}
use Rattle.script_files.specs.declared.line.Content.{Content}
use Rattle.script_files.specs.declared.line.Content.TheVariants.{Empty, Heading, Sent, Reply, Times}
use Rattle.script_files.specs.declared.line.Heading.{Heading as HeadingText}
use Rattle.script_files.specs.declared.line.NumberedLine.{NumberedLine}
use Rattle.script_files.specs.declared.fault.Mistake.{Mistake}
use Rattle.script_files.specs.declared.session.Expected.{Expected}
use Rattle.script_files.specs.declared.session.Session.{Session}
use Rattle.script_files.specs.declared.session.SentLine.{SentLine}

-- the reply that is expected
abbrev pub reply_of : Content → Option Expected
reply_of (Reply reply) = Some reply
reply_of _ = None

-- the reply that these lines begin with
abbrev pub reply_in : List NumberedLine → Option Expected
reply_in [] = None
reply_in (line ∷ lines) = reply_of line.content

-- what a reply of the file stands for, once or at a time
abbrev pub reply_at : Option ℕ → Expected → Expected
reply_at time reply = record { comparison = reply.comparison; text = written time reply.text }

-- the step of what stands in a line of this number, if it is sent, with the reply right below it if there is one, both once or at a time
abbrev pub step_in : Option ℕ → ℕ → Content → List NumberedLine → List SentLine
step_in time number (Sent text) behind = record { number = number; line = written time text; expected = option_map (reply_at time) (reply_in behind) } ∷ []
step_in time number _ behind = []

-- the step of a line with these behind it
abbrev pub step_at : Option ℕ → NumberedLine → List NumberedLine → List SentLine
step_at time line behind = step_in time line.number line.content behind

-- the steps of lines, once or at a time
abbrev pub steps_of : Option ℕ → List NumberedLine → List SentLine
steps_of time [] = []
steps_of time (line ∷ lines) = step_at time line lines ++ steps_of time lines

-- the steps of lines that come so many times, numbered from 0
abbrev pub steps_at : ℕ → List NumberedLine → List SentLine
steps_at times lines = flat_map (λ time. steps_of (Some time) lines) (range_with_len 0 times)

-- the steps of a line of this content and those behind it, which are these where they come once
abbrev pub with_others : Content → NumberedLine → List NumberedLine → List SentLine → List SentLine
with_others (Times times) line behind others = steps_at times behind
with_others _ line behind others = step_at None line behind ++ others

-- the steps of lines between two empty ones: once, but for those behind a number of times
abbrev pub paragraph : List NumberedLine → List SentLine
paragraph [] = []
paragraph (line ∷ lines) = with_others line.content line lines (paragraph lines)

-- a line is empty
abbrev pub is_empty : Content → Bool
is_empty Empty = true
is_empty _ = false

-- the steps of lines, which are those between empty ones
abbrev pub body : List NumberedLine → List SentLine
body lines = flat_map paragraph (slice_split (λ line. is_empty line.content) lines)

-- the lines up to the next heading
abbrev pub up_to_heading : List NumberedLine → List NumberedLine
up_to_heading lines = before_first (λ line. is_heading line.content) lines

-- the session of a heading in the line of this number and the lines behind it
abbrev pub session_at : ℕ → HeadingText → List NumberedLine → Session
session_at number heading behind = record { name = heading.name; number = number; modules = heading.modules; steps = body (up_to_heading behind) }

-- the session that begins with this in the line of this number, if it is a heading
abbrev pub session_in : ℕ → Content → List NumberedLine → List Session
session_in number (Heading heading) behind = session_at number heading behind ∷ []
session_in number _ behind = []

-- the sessions of lines: one for each heading
abbrev pub sessions_in : List NumberedLine → List Session
sessions_in [] = []
sessions_in (line ∷ lines) = session_in line.number line.content lines ++ sessions_in lines

-- the sessions of lines, or the number of the first line that can't stand where it stands, and why
abbrev pub sessions_unless : Option (ℕ × Mistake) → List NumberedLine → Result (List Session) SessionFault
sessions_unless (Some (number, mistake)) lines = Err (Form number mistake)
sessions_unless None lines = Ok (sessions_in lines)

-- the sessions that the bytes of a file spell, or the number of the first line that can't stand where it stands, and why
abbrev pub sessions_of : List ℕ → Result (List Session) SessionFault
sessions_of bytes = sessions_unless (misplaced [] (lines_of bytes)) (lines_of bytes)
