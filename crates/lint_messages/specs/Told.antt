-- What is told of a document that is refused: a line that begins with the place of its first fault.
use Rattle.std.specs.Prelude.{◌≡◌, ℕ, List, [], ◌∷◌, ◌++◌, Bool, true, not, ◌&&◌, ◌==◌, Option, Some, None, Result, Ok, Err, codes, nat_le}
use Rattle.std.specs.List.{list_all}
use Rattle.serde_json.specs.Data.{Data}
use Rattle.ent_policy.specs.declared.document.Document.{Document}
use Rattle.ent_policy.specs.declared.fault.DocFault.{DocFault}
use Rattle.ent_polform.specs.Form.{document_of}
use Rattle.lint_places.specs.Faults.{AreFaults, FaultAt, IsFirst}
use Rattle.lint_places.specs.Places.{Spot, StandsAt}

-- a byte that is no control character of ASCII
abbrev pub is_printable : ℕ → Bool
is_printable b = nat_le 32 b && not (b == 127)

-- a text without control characters of ASCII, so that it stays on one line
abbrev pub is_one_line : List ℕ → Bool
is_one_line text = list_all is_printable text

-- a JSON pointer as it is shown: that of a whole document is empty, and shown as a slash
abbrev pub shown : List ℕ → List ℕ
shown [] = codes "/"
shown (c ∷ cs) = c ∷ cs

-- a text that begins with a JSON pointer (RFC 6901) and goes on for one line
pub record IsPlaced (pointer text : List ℕ) : Type 0 where
  pub rest : List ℕ
  pub begins : text ≡ shown pointer ++ codes ": " ++ rest
  pub is_line : is_one_line rest ≡ true

-- a line that begins with the place at which that fault of a document stands, to which the whole document leads
pub record IsTold (f : DocFault) (d : Data) (text : List ℕ) : Type 0 where
  pub spot : Spot
  pub stands : StandsAt f spot d
  pub is_first : IsFirst f spot d
  pub placed : IsPlaced spot.pointer text

-- what is told of a document as read: nothing of one that can be used, and the place of the first fault of another
abbrev pub IsExplainedBy : Result Document DocFault → Data → Option (List ℕ) → Type 0
IsExplainedBy (Ok document) d told = told ≡ None
IsExplainedBy (Err f) d told = (text : List ℕ) × (told ≡ Some text) × IsTold f d text

-- what is told of a text, by the JSON that it is: of one that is no JSON, a line
abbrev pub IsExplained : Option Data → Option (List ℕ) → Type 0
IsExplained None told = (text : List ℕ) × (told ≡ Some text) × (is_one_line text ≡ true)
IsExplained (Some d) told = IsExplainedBy (document_of d) d told

-- ---- all faults

-- each fault has its line, which begins with its place
abbrev pub ArePlaced : List FaultAt → List (List ℕ) → Type 0
ArePlaced [] [] = Unit {0}
ArePlaced (fault ∷ faults) (line ∷ lines) = IsPlaced fault.1.pointer line × ArePlaced faults lines
ArePlaced _ _ = ⊥

-- the lines of a document with its faults: the first as it is told alone, each where it stands, and no two at one place
pub record AreTold (f : DocFault) (d : Data) (lines : List (List ℕ)) : Type 0 where
  pub faults : List FaultAt
  pub are : AreFaults f d faults
  pub placed : ArePlaced faults lines

-- what is told of a document as read: nothing of one that can be used, and a line for each fault of another
abbrev pub AreExplainedBy : Result Document DocFault → Data → List (List ℕ) → Type 0
AreExplainedBy (Ok document) d lines = lines ≡ []
AreExplainedBy (Err f) d lines = AreTold f d lines

-- what is told of a text, by the JSON that it is: of one that is no JSON, one line
abbrev pub AreExplained : Option Data → List (List ℕ) → Type 0
AreExplained None lines = (text : List ℕ) × (lines ≡ text ∷ []) × (is_one_line text ≡ true)
AreExplained (Some d) lines = AreExplainedBy (document_of d) d lines
