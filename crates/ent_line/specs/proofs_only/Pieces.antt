-- What taking a piece of input, and answering a line, do to the known bytes of a reader and a writer.
use Rattle.std.specs.Prelude.{◌≡◌, ℕ, ◌+◌, List, [], ◌++◌, Option, Result, Ok, Err, take, OnSome, ⊤}
use Rattle.std.specs.Io.KnownBytes.{Consumes, IsAtEnd}
use Rattle.ent_wire.specs.declared.fault.ServeFault.{ServeFault}
use Rattle.ent_wire.specs.declared.fault.ServeFault.TheVariants.{Read}
use Rattle.ent_line.specs.declared.input.InputPiece.{InputPiece}
use Rattle.ent_line.specs.declared.input.InputPiece.TheVariants.{End, Part, Line}
use Rattle.ent_wire.specs.Lines.{NoNewline, ended, line_limit}
use Rattle.ent_wire.specs.Pieces.{Sends}
use Rattle.ent_line.specs.Replies.{Answer, line_of}
use Rattle.ent_line.specs.Runs.{Handling}

-- what is kept of a line: one byte more than a line may have
abbrev pub kept_of : List ℕ → List ℕ
kept_of line = take (line_limit + 1) line

-- what one look at the reader does: the reader's bytes before and after, and what was kept of the line before and after
abbrev pub TakesPiece : Option (List ℕ) → Option (List ℕ) → List ℕ → List ℕ → Result InputPiece ServeFault → Type 0
-- nothing was left to read
TakesPiece before after old new (Ok End) = Consumes before after [] × OnSome before (IsAtEnd after) × (new ≡ old)
-- some bytes of the line were read, and not its newline
TakesPiece before after old new (Ok Part) = (bytes : List ℕ) × NoNewline bytes × Consumes before after bytes × (new ≡ kept_of (old ++ bytes))
-- the line was read to its newline
TakesPiece before after old new (Ok (Line followed)) = (bytes : List ℕ) × NoNewline bytes × Consumes before after (ended bytes) × (new ≡ kept_of (old ++ bytes))
-- the reader failed, and nothing was read
TakesPiece before after old new (Err e) = (e ≡ Read) × Consumes before after [] × (new ≡ old)

-- one line was handled, and its reply was written, or a front of it
abbrev pub AnswersLine : {W : Type 0} → Handling W → W → W → List ℕ → Option (List ℕ) → Option (List ℕ) → Result ⊤ ServeFault → Type 0
AnswersLine Answers w v line before after r = (a : Answer) × Answers w line a v × Sends before after (line_of a) r
