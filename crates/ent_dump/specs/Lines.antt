-- What reading a reply and writing its lines do to the known bytes of a reader and a writer.
use Rattle.std.specs.Prelude.{◌≡◌, ◌⊎◌, ℕ, ◌≤◌, ◌*◌, List, [], ◌∷◌, ◌++◌, length, Bool, true, false, Option, Some, None, Result, Ok, Err, ⊤}
use Rattle.std.specs.Io.KnownBytes.{Appends, Consumes, IsAtEnd, Keeps}
use Rattle.std.specs.List.{flat_map}
use Rattle.ent_dump.specs.Reply.{texts_of}
use Rattle.ent_dump.specs.declared.fault.LinesFault.{LinesFault}
use Rattle.ent_dump.specs.declared.fault.LinesFault.TheVariants.{NotDump, Read, Write, Memory}

-- a line with its newline
abbrev pub ended : List ℕ → List ℕ
ended line = line ++ 10 ∷ []

-- all of the bytes were written, or only a front of them: the writer's bytes before and after
abbrev pub Sends : Option (List ℕ) → Option (List ℕ) → List ℕ → Result ⊤ LinesFault → Type 0
Sends before after bytes (Ok done) = Appends before after bytes
Sends before after bytes (Err e) = (e ≡ Write) × (front rest : List ℕ) × (bytes ≡ front ++ rest) × Appends before after front

-- the reader failed, or memory ran out
abbrev pub IsReadFault : LinesFault → Type 0
IsReadFault e = (e ≡ Read) ⊎ (e ≡ Memory)

-- what one read does to the reader's bytes and to what was read: more of it, or its end
abbrev pub ReadsMore : Option (List ℕ) → Option (List ℕ) → ℕ → List ℕ → List ℕ → Result Bool LinesFault → Type 0
ReadsMore before after room old new (Ok true) = (bytes : List ℕ) × Consumes before after bytes × (new ≡ old ++ bytes)
ReadsMore before after room old new (Ok false) = Consumes before after [] × (1 ≤ room → IsAtEnd after) × (new ≡ old)
ReadsMore before after room old new (Err e) = IsReadFault e

-- what was taken of the reader's bytes, at most so many: the bytes before and after
abbrev pub TakesAtMost : Option (List ℕ) → Option (List ℕ) → ℕ → Type 0
TakesAtMost before after most = (bytes : List ℕ) × Consumes before after bytes × (length bytes ≤ most)

-- the most bytes that so many reads give
abbrev pub most_bytes : ℕ → ℕ
most_bytes reads = reads * 65536

-- all of the input was read: the reader's bytes before and after
pub record ReadsAll (before after : Option (List ℕ)) (all : List ℕ) : Type 0 where
  pub read : Consumes before after all
  pub end : IsAtEnd after

-- lines that were told are written, each with a newline, or only a front of them; none are where none were told
abbrev pub WritesTold : Option (List (List ℕ)) → Option (List ℕ) → Option (List ℕ) → Result ⊤ LinesFault → Type 0
WritesTold (Some lines) before after result = Sends before after (flat_map ended lines) result
WritesTold None before after result = (result ≡ Err NotDump) × Keeps before after

-- the bytes of a reader and of a writer, before and after, where they are known
pub record Streams : Type 0 where
  pub unread : Option (List ℕ)
  pub left : Option (List ℕ)
  pub wrote : Option (List ℕ)
  pub holds : Option (List ℕ)

-- the lines of the whole input, each with a newline, were written. Where the writer failed a front of them was, and in every other fault nothing
abbrev pub DumpsLines : Streams → Result ⊤ LinesFault → Type 0
DumpsLines s (Ok done) = (all : List ℕ) × (lines : List (List ℕ))
    × ReadsAll s.unread s.left all × (texts_of all ≡ Some lines) × Appends s.wrote s.holds (flat_map ended lines)
DumpsLines s (Err NotDump) = (all : List ℕ) × ReadsAll s.unread s.left all × (texts_of all ≡ None) × Keeps s.wrote s.holds
DumpsLines s (Err Read) = Keeps s.wrote s.holds
DumpsLines s (Err Memory) = Keeps s.wrote s.holds
DumpsLines s (Err Write) = (all : List ℕ) × (lines : List (List ℕ)) × (front rest : List ℕ)
    × ReadsAll s.unread s.left all × (texts_of all ≡ Some lines) × (flat_map ended lines ≡ front ++ rest) × Appends s.wrote s.holds front
