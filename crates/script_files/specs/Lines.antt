-- The lines of a file of sessions.
use Rattle.std.specs.Prelude.{ℕ, ◌+◌, ◌-◌, ◌&&◌, ◌==◌, nat_le, List, [], ◌∷◌, length, take, drop, bytes_eq, Option, Some, None, if◌then◌else◌}
use Rattle.std.specs.Char.{is_ascii_digit}
use Rattle.script_files.specs.Cut.{cut}
use Rattle.script_files.specs.Numbers.{leading_number}
use Rattle.script_files.specs.declared.line.Content.{Content}
use Rattle.script_files.specs.declared.line.Content.TheVariants.{Empty, Comment, Heading, Sent, Reply, Times, NoModules, Other}
use Rattle.script_files.specs.declared.line.NumberedLine.{NumberedLine}
use Rattle.script_files.specs.declared.session.ReplyComparison.{ReplyComparison}
use Rattle.script_files.specs.declared.session.ReplyComparison.TheVariants.{Bytes, Data, Part}

-- the number that two bytes, a space and a digit, write
abbrev pub modules_in : List ℕ → Option ℕ
modules_in [] = None
modules_in (space ∷ []) = None
modules_in (space ∷ digit ∷ []) = if space == 32 && is_ascii_digit digit then Some (digit - 48) else None
modules_in (space ∷ digit ∷ next ∷ more) = None

-- the heading of a session of that name, over that many modules of each sort
abbrev pub headed : List ℕ → ℕ → Content
headed name modules = Heading (record { name = name; modules = modules })

-- the heading of a text whose last two bytes write this number, or none
abbrev pub heading_with : List ℕ → Option ℕ → Content
heading_with text (Some modules) = if nat_le 1 modules && nat_le modules 4 then headed (take (length text - 2) text) modules else NoModules
heading_with text None = headed text 2

-- the heading that a text is: a name, with a number of modules from 1 to 4 behind it, or none, which stands for two
abbrev pub heading_of : List ℕ → Content
heading_of [] = Other
heading_of (byte ∷ text) = heading_with (byte ∷ text) (modules_in (drop (length (byte ∷ text) - 2) (byte ∷ text)))

-- the number of times that a number with nothing behind it says
abbrev pub times_in : Option (ℕ × List ℕ) → Content
times_in None = Other
times_in (Some (times, [])) = Times times
times_in (Some (times, byte ∷ rest)) = Other

-- how many times a text says
abbrev pub times_of : List ℕ → Content
times_of text = times_in (leading_number text)

-- a reply that is expected, which is compared in this way
abbrev pub expected : ReplyComparison → List ℕ → Content
expected comparison text = Reply (record { comparison = comparison; text = text })

-- what a line is that has this text behind a mark: # a heading, > what is sent, < = ~ a reply that is compared byte by byte, as data or in part,
-- * a number of times
abbrev pub marked : ℕ → List ℕ → Content
marked mark text =
    if mark == 35 then heading_of text
    else (if mark == 62 then Sent text
    else (if mark == 60 then expected Bytes text
    else (if mark == 61 then expected Data text
    else (if mark == 126 then expected Part text
    else (if mark == 42 then times_of text else Other)))))

-- what stands in a line: nothing, a mark and, behind a space, a text, or a comment behind --
abbrev pub content_of : List ℕ → Content
content_of [] = Empty
content_of (mark ∷ []) = marked mark []
content_of (mark ∷ second ∷ text) =
    if second == 32 then marked mark text
    else (if mark == 45 && second == 45 then Comment else Other)

-- a text without a byte at its end, if it ends with it
abbrev pub without_end : ℕ → List ℕ → List ℕ
without_end byte text = if bytes_eq (drop (length text - 1) text) (byte ∷ []) then take (length text - 1) text else text

-- lines, numbered from here on, each without the carriage return that may stand before its newline
abbrev pub numbered_lines : ℕ → List (List ℕ) → List NumberedLine
numbered_lines number [] = []
numbered_lines number (line ∷ lines) = record { number = number; content = content_of (without_end 13 line) } ∷ numbered_lines (number + 1) lines

-- the lines of a file of these bytes
abbrev pub lines_of : List ℕ → List NumberedLine
lines_of bytes = numbered_lines 1 (cut (10 ∷ []) bytes)
