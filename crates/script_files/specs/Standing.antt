-- Which lines can stand behind which.
use Rattle.std.specs.Prelude.{ℕ, Bool, true, false, List, [], ◌∷◌, Option, Some, None, if◌then◌else◌}
use Rattle.std.specs.List.{list_any}
use Rattle.script_files.specs.declared.fault.Mistake.{Mistake}
use Rattle.script_files.specs.declared.fault.Mistake.TheVariants.{NoHeading, NoLine, Repeated, Modules, NoMark}
use Rattle.script_files.specs.declared.line.Content.{Content}
use Rattle.script_files.specs.declared.line.Content.TheVariants.{Empty, Comment, Heading, Sent, Reply, Times, NoModules, Other}
use Rattle.script_files.specs.declared.line.NumberedLine.{NumberedLine}
use Rattle.script_files.specs.declared.standing.LinePlace.{LinePlace}

-- below, `before` is a list of lines from the nearest one back to the first

-- what is a heading
abbrev pub is_heading : Content → Bool
is_heading (Heading heading) = true
is_heading _ = false

-- a session has begun: one of the lines is a heading
abbrev pub begun : List NumberedLine → Bool
begun before = list_any (λ line. is_heading line.content) before

-- what stands behind this comes many times, if what stands before it does or doesn't
abbrev pub repeats_behind : Content → Bool → Bool
repeats_behind (Times times) repeats = true
repeats_behind Empty repeats = false
repeats_behind _ repeats = repeats

-- what stands behind these lines comes many times: no empty line stands behind the last one that says so
abbrev pub repeats : List NumberedLine → Bool
repeats [] = false
repeats (line ∷ before) = repeats_behind line.content (repeats before)

-- what is sent
abbrev pub is_sent : Content → Bool
is_sent (Sent text) = true
is_sent _ = false

-- the nearest line is sent
abbrev pub sent : List NumberedLine → Bool
sent [] = false
sent (line ∷ before) = is_sent line.content

-- what these lines say of which can stand behind them
abbrev pub place_of : List NumberedLine → LinePlace
place_of before = record { begun = begun before; repeats = repeats before; sent = sent before }

-- why what stands in a line can't stand at a place: nothing and a comment can anywhere, a heading where nothing comes many times, what is sent in a
-- session, a reply right below it, and a number of times in a session, where nothing comes many times
abbrev pub mistake_at : LinePlace → Content → Option Mistake
mistake_at place Empty = None
mistake_at place Comment = None
mistake_at place (Heading heading) = if place.repeats then Some Repeated else None
mistake_at place (Sent text) = if place.begun then None else Some NoHeading
mistake_at place (Reply reply) = if place.sent then None else Some NoLine
mistake_at place (Times times) = if place.begun then (if place.repeats then Some Repeated else None) else Some NoHeading
mistake_at place NoModules = Some Modules
mistake_at place Other = Some NoMark

-- the mistake in the line of this number, if it has one, or else one behind it
abbrev pub first_mistake : ℕ → Option Mistake → Option (ℕ × Mistake) → Option (ℕ × Mistake)
first_mistake number (Some mistake) behind = Some (number, mistake)
first_mistake number None behind = behind

-- the number of the first line that can't stand behind those before it, and why
abbrev pub misplaced : List NumberedLine → List NumberedLine → Option (ℕ × Mistake)
misplaced before [] = None
misplaced before (line ∷ lines) = first_mistake line.number (mistake_at (place_of before) line.content) (misplaced (line ∷ before) lines)
