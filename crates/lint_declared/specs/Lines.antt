-- What is wrong with lines, where commands, attributes and names are known.
use Rattle.std.specs.Prelude.{ℕ, suc, List, [], ◌∷◌, ◌&&◌, Bool, true, false, if◌then◌else◌, Option, Some, None, option_and_then, option_map, codes, bytes_eq}
use Rattle.std.specs.List.{list_any}
use Rattle.std.specs.Option.{option_map_or, option_or}
use Rattle.serde_json.specs.Data as json
use Rattle.serde_json.specs.Data.{Data, Items}
use Rattle.ent_json.specs.Line.{data_of}
use Rattle.ent_json.specs.Objects.{text_at}
use Rattle.ent_policy.specs.Names.{is_bad_name}
use Rattle.ent_polform.specs.Values.{value_in}
use Rattle.lint_declared.specs.Asked.{finds}
use Rattle.lint_declared.specs.Claims.{behind, said_by}
use Rattle.lint_declared.specs.Compared.{is_foreign}
use Rattle.lint_declared.specs.Settings.{Setting, category_listed, has_name, is_setting, named, setting_of}
use Rattle.lint_declared.specs.declared.attribute.DeclaredAttribute.{DeclaredAttribute}
use Rattle.lint_declared.specs.declared.claim.Claim.{Claim}
use Rattle.lint_declared.specs.declared.claim.Claim.TheVariants as claim
use Rattle.lint_declared.specs.declared.lines.LineFault.{LineFault}
use Rattle.lint_declared.specs.declared.lines.LineFault.TheVariants as fault
use Rattle.lint_declared.specs.declared.lines.FaultyLine.{FaultyLine}
use Rattle.lint_declared.specs.declared.listed.ListedName.{ListedName}

-- an attribute is declared as it is set: with the same issuer, or without one
abbrev pub is_set_as : DeclaredAttribute → DeclaredAttribute → Bool
is_set_as set declared = finds set declared && finds declared set

-- a value is none of the attribute's type, or is none of those that are listed for it
abbrev pub is_bad_value : List DeclaredAttribute → DeclaredAttribute → Data → Bool
is_bad_value attributes set d = option_map_or (is_foreign attributes set) (value_in set.datatype d) true

-- the number of the first such value, where the first has this number
abbrev pub bad_value_from : List DeclaredAttribute → DeclaredAttribute → ℕ → Items → Option ℕ
bad_value_from attributes set n json.no_items = None
bad_value_from attributes set n (json.item d ds) = if is_bad_value attributes set d then Some n else bad_value_from attributes set (suc n) ds

-- a fault of a value, or else that the name isn't listed
abbrev pub fault_of_names : List ListedName → Setting → Option LineFault
fault_of_names listed s = if has_name (named s.attribute.category s.entity) listed then None else Some (fault.Unlisted (named s.attribute.category s.entity))

abbrev pub fault_of_values : List ListedName → Setting → Option ℕ → Option LineFault
fault_of_values listed s (Some n) = Some (fault.Value s.attribute n)
fault_of_values listed s None = fault_of_names listed s

-- what is first wrong with what a line sets: its attribute isn't declared, a value isn't one of it, or nobody is called so
abbrev pub fault_of_setting : List DeclaredAttribute → List ListedName → Setting → Option LineFault
fault_of_setting attributes listed s =
    if list_any (is_set_as s.attribute) attributes then fault_of_values listed s (bad_value_from attributes s.attribute 0 s.values)
    else Some (fault.Undeclared s.attribute)

-- with a line that sets something
abbrev pub fault_of_set : List DeclaredAttribute → List ListedName → Option Setting → Option LineFault
fault_of_set attributes listed None = Some fault.Form
fault_of_set attributes listed (Some s) = fault_of_setting attributes listed s

-- with the name that a line lists in a category: it has to have 1 to 256 bytes
abbrev pub fault_of_name : List ℕ → Option (List ℕ) → Option LineFault
fault_of_name category None = Some fault.NoName
fault_of_name category (Some name) = if is_bad_name name then Some (fault.BadName (named category name)) else None

-- with a line that may list a name
abbrev pub fault_of_listing : Data → Option LineFault
fault_of_listing d = option_map_or (λ category. fault_of_name category (text_at (codes "name") d)) (option_and_then category_listed (text_at (codes "do") d)) None

-- what a line says, where a line before it says it too and it stands
abbrev pub fault_of_claim : (Claim → Option ℕ) → Option (Claim × Bool) → Option LineFault
fault_of_claim claimed None = None
fault_of_claim claimed (Some said) = if said.1 then option_map (fault.Again said.0) (claimed said.0) else None

-- a line may be meant so: it gives a row other values than a line before it
abbrev pub is_warning : LineFault → Bool
is_warning (fault.Again (claim.Values row) n) = true
is_warning _ = false

-- with a line whose command there is
abbrev pub fault_of_known : List DeclaredAttribute → List ListedName → (Claim → Option ℕ) → Data → Option LineFault
fault_of_known attributes listed claimed d =
    option_or (if is_setting d then fault_of_set attributes listed (setting_of d) else fault_of_listing d) (fault_of_claim claimed (said_by d))

-- with a line whose command has that word
abbrev pub fault_of_word : List (List ℕ) → List DeclaredAttribute → List ListedName → (Claim → Option ℕ) → Option (List ℕ) → Data → Option LineFault
fault_of_word commands attributes listed claimed None d = Some fault.NoCommand
fault_of_word commands attributes listed claimed (Some word) d =
    if list_any (bytes_eq word) commands then fault_of_known attributes listed claimed d else Some (fault.Unknown word)

-- with the JSON of a line; one that isn't JSON has a fault
abbrev pub fault_of_data : List (List ℕ) → List DeclaredAttribute → List ListedName → (Claim → Option ℕ) → Option Data → Option LineFault
fault_of_data commands attributes listed claimed None = Some fault.NotJson
fault_of_data commands attributes listed claimed (Some d) = fault_of_word commands attributes listed claimed (text_at (codes "do") d) d

-- with a line; an empty one has no fault
abbrev pub fault_of : List (List ℕ) → List DeclaredAttribute → List ListedName → (Claim → Option ℕ) → List ℕ → Option LineFault
fault_of commands attributes listed claimed [] = None
fault_of commands attributes listed claimed (c ∷ cs) = fault_of_data commands attributes listed claimed (data_of (c ∷ cs))

-- a line of that number before others, if it has a fault
abbrev pub with_fault : ℕ → Option LineFault → List FaultyLine → List FaultyLine
with_fault n None others = others
with_fault n (Some e) others = record { number = n; fault = e } ∷ others

-- of lines of which the first has this number, behind lines that claim this
abbrev pub faulty_from : List (List ℕ) → List DeclaredAttribute → List ListedName → (Claim → Option ℕ) → ℕ → List (List ℕ) → List FaultyLine
faulty_from commands attributes listed claimed n [] = []
faulty_from commands attributes listed claimed n (line ∷ lines) =
    with_fault n (fault_of commands attributes listed claimed line) (faulty_from commands attributes listed (behind claimed n line) (suc n) lines)

-- what is wrong with lines, where there are these commands, attributes and names
abbrev pub faults_in : List (List ℕ) → List DeclaredAttribute → List ListedName → List (List ℕ) → List FaultyLine
faults_in commands attributes listed lines = faulty_from commands attributes listed (λ c. None) 1 lines
