-- A run over bytes: what `serve` reads, answers and writes, and how it ends.
use Rattle.std.specs.Prelude.{◌≡◌, ◌⊎◌, ℕ, List, [], ◌∷◌, ◌++◌, length, Option, OnSome, Result, Ok, Err}
use Rattle.std.specs.List.{flat_map}
use Rattle.std.specs.Io.KnownBytes.{Consumes, Appends, IsAtEnd}
use Rattle.ent_wire.specs.declared.fault.ServeFault.{ServeFault}
use Rattle.ent_wire.specs.declared.fault.ServeFault.TheVariants.{Read, Write, Memory}
use Rattle.ent_wire.specs.Lines.{Splits}
use Rattle.ent_line.specs.Replies.{Answer, line_of}
use Rattle.ent_line.specs.Runs.{Handling, Run}

-- the lines of a whole text: what stands after the last newline is a line if it has a byte
abbrev pub with_last : List (List ℕ) → List ℕ → List (List ℕ)
with_last lines [] = lines
with_last lines (b ∷ bs) = lines ++ (b ∷ bs) ∷ []

-- where a call begins and where it leads: the world, the bytes that the reader still has, and those that the writer
-- holds
pub record Ends (W : Type 0) : Type 0 where
  pub start : W
  pub end : W
  pub unread : Option (List ℕ)
  pub left : Option (List ℕ)
  pub wrote : Option (List ℕ)
  pub holds : Option (List ℕ)

-- a text of these lines and this rest was read, and these lines were handled, their replies written in full
pub record Serves {W : Type 0} (Answers : Handling W) (e : Ends W) (lines : List (List ℕ)) (rest : List ℕ) (handled : List (List ℕ)) (answers : List Answer) : Type 0 where
  pub text : List ℕ
  pub splits : Splits text lines rest
  pub read : Consumes e.unread e.left text
  pub run : Run Answers e.start handled answers e.end
  pub written : Appends e.wrote e.holds (flat_map line_of answers)

-- a text of these lines and this rest was read, and all of them were handled, but of the last one's reply only a front
-- was written; what stands after the last newline was handled only where nothing was left to read
pub record Breaks {W : Type 0} (Answers : Handling W) (e : Ends W) (lines : List (List ℕ)) (rest : List ℕ) : Type 0 where
  pub text : List ℕ
  pub splits : Splits text lines rest
  pub read : Consumes e.unread e.left text
  pub whole_rest : (rest ≡ []) ⊎ OnSome e.unread (IsAtEnd e.left)
  pub handled : List (List ℕ)
  pub last : List ℕ
  pub all : handled ++ last ∷ [] ≡ with_last lines rest
  pub answers : List Answer
  pub answer : Answer
  pub middle : W
  pub run : Run Answers e.start handled answers middle
  pub step : Answers middle last answer e.end
  pub front : List ℕ
  pub lost : List ℕ
  pub cut : line_of answer ≡ front ++ lost
  pub written : Appends e.wrote e.holds (flat_map line_of answers ++ front)

-- how serving ends
abbrev pub ServesUntil : {W : Type 0} → Handling W → Ends W → Result ℕ ServeFault → Type 0
-- all was read, each line has its reply, and this is their number
ServesUntil Answers e (Ok n) =
    (lines : List (List ℕ)) × (rest : List ℕ) × (answers : List Answer) × Serves Answers e lines rest (with_last lines rest) answers
    × OnSome e.unread (IsAtEnd e.left) × (n ≡ length (with_last lines rest))
-- each line that was read to its newline has its reply, and the rest wasn't handled
ServesUntil Answers e (Err Read) = (lines : List (List ℕ)) × (rest : List ℕ) × (answers : List Answer) × Serves Answers e lines rest lines answers
-- each line was handled, and the replies before the last were written in full
ServesUntil Answers e (Err Write) = (lines : List (List ℕ)) × (rest : List ℕ) × Breaks Answers e lines rest
-- nothing was read, handled or written
ServesUntil Answers e (Err Memory) = (e.end ≡ e.start) × Consumes e.unread e.left [] × Appends e.wrote e.holds []
