-- What is said of a document where attributes are declared, and of the file that declares them.
use Rattle.std.specs.Prelude.{ℕ, List, length, nat_lt, if◌then◌else◌, Option, Some, None, IfSome, Result, Ok, Err, string_bytes, option_map}
use Rattle.serde_json.specs.Data.{Data}
use Rattle.lint_places.specs.Places.{Spot, whole}
use Rattle.lint_declared.specs.Attributes.{attributes_of}
use Rattle.lint_declared.specs.Saying.{IsToldAt}
use Rattle.lint_declared.specs.Undeclared.{Finds}
use Rattle.lint_declared.specs.declared.attribute.DeclaredAttribute.{DeclaredAttribute}
use Rattle.lint_declared.specs.declared.fault.AttributesFault.{AttributesFault}
use Rattle.lint_declared.specs.declared.designator.Undeclared.{Undeclared}
use Rattle.ent_wire.specs.Lines.{line_limit}
use Rattle.ent_json.specs.Line.{data_of}
use Rattle.cli_check.specs.declared.checking.CheckResult.{CheckResult}
use Rattle.cli_check.specs.declared.declaring.Declared.{Declared}
use Rattle.cli_check.specs.declared.declaring.Declared.TheVariants as file
use Rattle.cli_check.specs.declared.declaring.DeclaredFault.{DeclaredFault}
use Rattle.cli_check.specs.declared.declaring.DeclaredFault.TheVariants.{TooLong, NotJson, Attributes}

-- what a file declares, or its fault
abbrev pub seen : Declared → Result (List DeclaredAttribute) DeclaredFault
seen (file.Attributes attributes) = Ok attributes
seen (file.Refused e told) = Err e

-- a fault of the list of attributes is one of the file
abbrev pub of_list : Result (List DeclaredAttribute) AttributesFault → Result (List DeclaredAttribute) DeclaredFault
of_list (Ok attributes) = Ok attributes
of_list (Err e) = Err (Attributes e)

-- what JSON declares, or what isn't JSON
abbrev pub data_declares : Option Data → Result (List DeclaredAttribute) DeclaredFault
data_declares None = Err NotJson
data_declares (Some d) = of_list (attributes_of d)

-- what the bytes of a file declare, which are too many above a line's limit
unfoldable pub declared_of : List ℕ → Result (List DeclaredAttribute) DeclaredFault
declared_of bytes = if nat_lt line_limit (length bytes) then Err TooLong else data_declares (data_of bytes)

-- nothing is told only where a document asks for no attribute that isn't declared; and what is told begins with the place of one that it asks for
abbrev pub TellsUndeclared : List DeclaredAttribute → Spot → Option (List ℕ) → Type 0
TellsUndeclared attributes spot None = Finds attributes spot None
TellsUndeclared attributes spot (Some text) = (found : Undeclared) × Finds attributes spot (Some found) × IsToldAt found.pointer text

-- what is told of JSON whose document may be stored: where it asks for an attribute that isn't declared, if it does
abbrev pub AsksDeclared : List DeclaredAttribute → Option Data → CheckResult → Type 0
AsksDeclared attributes unread judged = IfSome unread (λ d. TellsUndeclared attributes (whole d) (option_map string_bytes judged.told))
