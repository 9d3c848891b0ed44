-- Replies beside those that a file of tests expects.
use Rattle.std.specs.Prelude.{ℕ, ◌==◌, ◌&&◌, ◌||◌, Bool, true, false, not, List, [], ◌∷◌, ◌++◌, Option, Some, None, bytes_eq, codes, decimal, if◌then◌else◌}
use Rattle.std.specs.List.{after_first, before_first, flat_map}
use Rattle.script_matching.specs.Matching.{is_part, is_same}
use Rattle.script_matching.specs.Places.{places_in}
use Rattle.script_files.specs.Cut.{begins}
use Rattle.script_files.specs.declared.session.ReplyComparison.{ReplyComparison}
use Rattle.script_files.specs.declared.session.ReplyComparison.TheVariants.{Bytes, Data, Part}
use Rattle.script_files.specs.declared.session.Expected.{Expected}
use Rattle.script_files.specs.declared.session.SentLine.{SentLine}
use Rattle.ent_wire.specs.Lines.{ended}

-- what a refusal begins with
abbrev pub refusal : List ℕ
refusal = codes "{\"refused\":"

-- a reply is as a text says: the same bytes, the same JSON, or JSON of which the text is a part
abbrev pub is_as : ReplyComparison → List ℕ → List ℕ → Bool
is_as Bytes text reply = bytes_eq reply text
is_as Data text reply = is_same text reply
is_as Part text reply = is_part text reply

-- a reply is as it is expected; where nothing is said of it, it isn't a refusal
abbrev pub meets : Option Expected → List ℕ → Bool
meets (Some expected) reply = is_as expected.comparison expected.text reply
meets None reply = not (begins refusal reply)

-- a reply is the refusal for want of memory
abbrev pub is_wanting : List ℕ → Bool
is_wanting reply = bytes_eq reply (codes "{\"refused\":15}")

-- a reply is as it is expected, or it isn't for want of memory that it isn't
abbrev pub is_sure : Option Expected → List ℕ → Bool
is_sure expected reply = meets expected reply || not (is_wanting reply)

-- a byte is a newline
abbrev pub is_newline : ℕ → Bool
is_newline byte = byte == 10

-- each of the replies, which are lines, passes a test beside what its step expects
abbrev pub each : (Option Expected → List ℕ → Bool) → List SentLine → List ℕ → Bool
each p [] replies = true
each p (step ∷ steps) replies = p step.expected (before_first is_newline replies) && each p steps (after_first is_newline replies)

-- each of the replies is as its step expects
abbrev pub pass : List SentLine → List ℕ → Bool
pass steps replies = each meets steps replies

-- no reply that isn't as its step expects is the refusal for want of memory
abbrev pub are_sure : List SentLine → List ℕ → Bool
are_sure steps replies = each is_sure steps replies

-- what stands behind the replies to these steps
abbrev pub behind : List SentLine → List ℕ → List ℕ
behind [] replies = replies
behind (step ∷ steps) replies = behind steps (after_first is_newline replies)

-- the words before what is expected of a reply that is compared in this way
abbrev pub comparison_word : ReplyComparison → List ℕ
comparison_word Bytes = codes ": expected "
comparison_word Data = codes ": expected = "
comparison_word Part = codes ": expected ~ "

-- the words before what is expected: the mark that it has in the file, but for bytes
abbrev pub expected_word : Option Expected → List ℕ
expected_word None = codes ": expected "
expected_word (Some expected) = comparison_word expected.comparison

-- what a step is told to expect
abbrev pub wanted : Option Expected → List ℕ
wanted (Some expected) = expected.text
wanted None = codes "no refusal"

-- a line on the line of a file: the file's name, the number, a word and what is said
abbrev pub told_at : List ℕ → ℕ → List ℕ → List ℕ → List ℕ
told_at name number word said = name ++ (codes ":" ++ (decimal number ++ (word ++ (said ++ codes "\n"))))

-- the places at which a reply isn't as a text says, where they are compared as JSON
abbrev pub places_by : ReplyComparison → List ℕ → List ℕ → List (List ℕ)
places_by Bytes text reply = []
places_by Data text reply = places_in true text reply
places_by Part text reply = places_in false text reply

-- the places at which a reply isn't as is expected, if anything is
abbrev pub places_of : Option Expected → List ℕ → List (List ℕ)
places_of None reply = []
places_of (Some expected) reply = places_by expected.comparison expected.text reply

-- the lines on these places
abbrev pub places_told : List ℕ → ℕ → List (List ℕ) → List ℕ
places_told name number places = flat_map (λ place. told_at name number (codes ": differs at ") place) places

-- what is told of a reply that isn't as a step expects: what was expected, what was replied, and where they differ
abbrev pub difference : List ℕ → SentLine → List ℕ → List ℕ
difference name step reply =
    told_at name step.number (expected_word step.expected) (wanted step.expected)
    ++ (told_at name step.number (codes ": replied ") reply ++ places_told name step.number (places_of step.expected reply))

-- what is told of a reply: nothing where it is as the step expects
abbrev pub told_of_one : List ℕ → SentLine → List ℕ → List ℕ
told_of_one name step reply = if meets step.expected reply then [] else difference name step reply

-- what is told of the replies, one after the other
abbrev pub differences : List ℕ → List SentLine → List ℕ → List ℕ
differences name [] replies = []
differences name (step ∷ steps) replies = told_of_one name step (before_first is_newline replies) ++ differences name steps (after_first is_newline replies)

-- what is sent in these steps: the line of each, with a newline
abbrev pub asked : List SentLine → List ℕ
asked steps = flat_map (λ step. ended step.line) steps
