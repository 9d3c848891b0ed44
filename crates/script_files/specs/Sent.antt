-- The lines of a file that are sent, as they stand.
use Rattle.std.specs.Prelude.{ℕ, ◌+◌, List, [], ◌∷◌, None}
use Rattle.script_files.specs.Cut.{cut}
use Rattle.script_files.specs.Lines.{without_end}
use Rattle.script_files.specs.declared.session.SentLine.{SentLine}

-- the step of a line of this number, of whose reply nothing is said
abbrev pub sent : ℕ → List ℕ → SentLine
sent number line = record { number = number; line = line; expected = None }

-- the steps of lines, numbered from here on
abbrev pub sent_from : ℕ → List (List ℕ) → List SentLine
sent_from number [] = []
sent_from number (line ∷ lines) = sent number line ∷ sent_from (number + 1) lines

-- the steps of the lines of a file: each newline ends one, and what stands behind the last newline is one if it has a byte
abbrev pub sent_in : List ℕ → List SentLine
sent_in [] = []
sent_in (byte ∷ bytes) = sent_from 1 (cut (10 ∷ []) (without_end 10 (byte ∷ bytes)))
