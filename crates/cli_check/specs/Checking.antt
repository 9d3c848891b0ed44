-- What is said of a document in a file.
use Rattle.std.specs.Prelude.{◌≡◌, ℕ, List, [], ◌++◌, length, nat_lt, if◌then◌else◌, Bool, true, false, not, ◌&&◌, Option, Some, None, is_some, option_and_then, IfSome, Result, Ok, Err, codes, decimal}
use Rattle.std.specs.Io.KnownBytes.{Appends}
use Rattle.std.specs.Result.{result_ok}
use Rattle.serde_json.specs.Data.{Data}
use Rattle.ent_policy.specs.Fault.{sub_code}
use Rattle.ent_policy.specs.Key.{key_of, kind_word}
use Rattle.ent_policy.specs.Versions.{version_text}
use Rattle.ent_policy.specs.declared.document.Tree.{Tree}
use Rattle.ent_policy.specs.declared.fault.DocFault.{DocFault}
use Rattle.ent_polform.specs.Form.{document_of}
use Rattle.lint_messages.specs.Told.{IsExplained}
use Rattle.ent_wire.specs.Lines.{line_limit}
use Rattle.ent_json.specs.Line.{data_of}
use Rattle.ent_wire.specs.declared.fault.ServeFault.{ServeFault}
use Rattle.ent_wire.specs.declared.fault.ServeFault.TheVariants as fault
use Rattle.cli_check.specs.declared.checking.FileFault.TheVariants.{TooLong, NotJson, Document}
use Rattle.cli_check.specs.declared.checking.CheckResult.{CheckResult}
use Rattle.cli_check.specs.declared.checking.Verdict.{Verdict}
use Rattle.cli_check.specs.declared.checking.Verdict.TheVariants.{Passed, Refused}

-- the verdict on a document that may be stored: its kind, its id, and its version as it is written
abbrev pub passed_of : Tree → Verdict
passed_of tree = Passed (key_of tree).kind (key_of tree).id (version_text (key_of tree).version)

-- the verdict on a document, or on its first fault
abbrev pub document_verdict : Result Tree DocFault → Verdict
document_verdict (Ok tree) = passed_of tree
document_verdict (Err e) = Refused (Document e)

-- the verdict on JSON, or on what isn't JSON
abbrev pub data_verdict : Option Data → Verdict
data_verdict None = Refused NotJson
data_verdict (Some d) = document_verdict (document_of d)

-- the verdict on the bytes of a file, which are too many above a line's limit
unfoldable pub verdict_of : List ℕ → Verdict
verdict_of bytes = if nat_lt line_limit (length bytes) then Refused TooLong else data_verdict (data_of bytes)

-- the document that the bytes of a file hold, if it may be stored
unfoldable pub document_in : List ℕ → Option Tree
document_in bytes = if nat_lt line_limit (length bytes) then None else option_and_then (λ d. result_ok (document_of d)) (data_of bytes)

-- whether the document may be stored
abbrev pub is_passed : Verdict → Bool
is_passed (Passed kind id version) = true
is_passed (Refused e) = false

-- the line of a refusal, its newline included: its number, and for a document the sub-code of its fault
abbrev pub refusal_line : ℕ → Option ℕ → List ℕ
refusal_line code None = codes "refused " ++ (decimal code ++ codes "\n")
refusal_line code (Some sub) = codes "refused " ++ (decimal code ++ (codes " " ++ (decimal sub ++ codes "\n")))

-- the line of a verdict, its newline included
abbrev pub line_of : Verdict → List ℕ
line_of (Passed kind id version) = codes "ok " ++ (kind_word kind ++ (codes " " ++ (id ++ (codes " " ++ (version ++ codes "\n")))))
line_of (Refused TooLong) = refusal_line 1 None
line_of (Refused NotJson) = refusal_line 2 None
line_of (Refused (Document e)) = refusal_line 6 (Some (sub_code e))

-- the verdict on all that the reader has, where that is known
abbrev pub IsVerdictOn : Option (List ℕ) → Verdict → Type 0
IsVerdictOn unread v = IfSome unread (λ all. v ≡ verdict_of all)

-- what a check gives and writes, of a reader's bytes, and the writer's bytes before and after
abbrev pub Judges : Option (List ℕ) → Option (List ℕ) → Option (List ℕ) → Result Verdict ServeFault → Type 0
-- the verdict was written as one line
Judges unread before after (Ok v) = IsVerdictOn unread v × Appends before after (line_of v)
-- the reader failed, and nothing was written
Judges unread before after (Err fault.Read) = Appends before after []
-- a front of the verdict's line was written
Judges unread before after (Err fault.Write) = (v : Verdict) × IsVerdictOn unread v × (front rest : List ℕ) × (line_of v ≡ front ++ rest) × Appends before after front
-- memory was wanting, and nothing was written
Judges unread before after (Err fault.Memory) = Appends before after []

-- a check that says of its verdict only whether the document may be stored
abbrev pub Checks : Option (List ℕ) → Option (List ℕ) → Option (List ℕ) → Result Bool ServeFault → Type 0
Checks unread before after (Ok passed) = (v : Verdict) × Judges unread before after (Ok v) × (passed ≡ is_passed v)
Checks unread before after (Err e) = Judges unread before after (Err e)

-- the verdict of what a check comes to
abbrev pub verdict_in : Result CheckResult ServeFault → Result Verdict ServeFault
verdict_in (Ok j) = Ok j.verdict
verdict_in (Err e) = Err e

-- whether nothing is wrong with a file: its document may be stored, and nothing is told of it
abbrev pub is_fine : CheckResult → Bool
is_fine j = is_passed j.verdict && not (is_some j.told)

-- what is told of a verdict on JSON, or on what is none, beside its line: of the first fault of a document its place, of what isn't JSON one line, else nothing
abbrev pub IsToldOf : Verdict → Option Data → Option (List ℕ) → Type 0
IsToldOf (Refused NotJson) d told = IsExplained d told
IsToldOf (Refused (Document e)) d told = IsExplained d told
IsToldOf verdict d told = told ≡ None
