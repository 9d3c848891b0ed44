-- That what is written reads back.
use Rattle.std.specs.Prelude.{◌≡◌, List, Bool, true, false, IsTrue, Option, Some, None, Ok}
use Rattle.std.specs.List.{AllByRecursion}
use Rattle.serde_json.specs.Data.{Data}
use Rattle.ent_values.specs.ReadBack.{HasFewYears, IsReal}
use Rattle.ent_values.specs.Types.{datatype_of}
use Rattle.ent_values.specs.declared.value.Value.{Value}
use Rattle.ent_policy.specs.Check.{IsChecked}
use Rattle.ent_policy.specs.Names.{is_bad_name}
use Rattle.ent_policy.specs.Patterns.{is_pattern}
use Rattle.ent_policy.specs.Values.{document_values}
use Rattle.ent_policy.specs.declared.document.Tree.{Tree}
use Rattle.ent_policy.specs.declared.key.Reference.{Reference}
use Rattle.ent_policy.specs.declared.pattern.PatternPart.{PatternPart}
use Rattle.ent_polform.specs.Form.{document_of}
use Rattle.ent_polform.specs.Reference.{reference_of}
use Rattle.ent_polform.specs.Values.{value_in}
use Rattle.ent_polform.specs.Written.{reference_written, value_written, written}

-- ---- values

-- this JSON is read as that value, where a duration has at most 999,999,999 whole years
abbrev pub ValueReadsBack : Value → Data → Type 0
ValueReadsBack value d = HasFewYears value → value_in (datatype_of value) d ≡ Some value

-- what is written of a value that is what its type says reads as that value
abbrev pub ValuesReadBack : Type 0
ValuesReadBack = (value : Value) → IsReal value → ValueReadsBack value (value_written value)

-- ---- references

-- a version pattern, where there is one
abbrev pub is_maybe_pattern : Option (List PatternPart) → Bool
is_maybe_pattern None = true
is_maybe_pattern (Some parts) = is_pattern parts

-- what the type of a reference says: its id is a name, and each of its constraints a version pattern
pub record IsReference (r : Reference) : Type 0 where
  pub name : is_bad_name r.id ≡ false
  pub version : IsTrue (is_maybe_pattern r.constraints.version)
  pub earliest : IsTrue (is_maybe_pattern r.constraints.earliest)
  pub latest : IsTrue (is_maybe_pattern r.constraints.latest)

-- a reference that is written reads as that reference
abbrev pub ReferencesReadBack : Type 0
ReferencesReadBack = (reference : Reference) → IsReference reference → reference_of (reference_written reference) ≡ Ok reference

-- ---- documents

-- this JSON is read as that document, where no duration in it has more than 999,999,999 whole years
abbrev pub ReadsBack : Tree → Data → Type 0
ReadsBack document d = AllByRecursion HasFewYears (document_values document) → document_of d ≡ Ok document

-- what is written of a document that the checker passes is read as that document
abbrev pub DocumentsReadBack : Type 0
DocumentsReadBack = (document : Tree) → IsChecked document → ReadsBack document (written document)
