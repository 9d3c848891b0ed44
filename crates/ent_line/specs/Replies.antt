-- Replies, and the lines that they are written as.
use Rattle.std.specs.Prelude.{ℕ, List, ◌++◌, Option, Some, None, Result, Ok, Err, codes, decimal}
use Rattle.serde_json.specs.Data.{Data}
use Rattle.serde_json.specs.Written.{compact_text}
use Rattle.ent_wire.specs.Refusals.{code_of, sub_of}
use Rattle.ent_wire.specs.declared.refusal.Refusal.{Refusal}

-- what a line is answered by: a reply without where its text lies in memory
pub data Answer : Type 0 where
  -- how many cells changed, and the new serial
  accepted : ℕ → ℕ → Answer
  -- why it is refused
  refused : Refusal → Answer
  -- the serial of a marked table
  marked : ℕ → Answer
  -- a JSON text
  text : List ℕ → Answer

-- what tells JSON, or a refusal
abbrev pub answered : Result Data Refusal → Answer
answered (Ok d) = text (compact_text d)
answered (Err refusal) = refused refusal

-- the line of a refusal, by its number and its sub-code
abbrev pub refusal_line : ℕ → Option ℕ → List ℕ
refusal_line code None = codes "{\"refused\":" ++ (decimal code ++ codes "}\n")
refusal_line code (Some sub) = codes "{\"refused\":" ++ (decimal code ++ (codes ",\"sub\":" ++ (decimal sub ++ codes "}\n")))

-- the line of an answer, its newline included: compact JSON, the keys in byte order
abbrev pub line_of : Answer → List ℕ
line_of (accepted changes serial) = codes "{\"changes\":" ++ (decimal changes ++ (codes ",\"serial\":" ++ (decimal serial ++ codes "}\n")))
line_of (refused refusal) = refusal_line (code_of refusal) (sub_of refusal)
line_of (marked serial) = codes "{\"mark\":" ++ (decimal serial ++ codes "}\n")
line_of (text s) = s ++ codes "\n"
