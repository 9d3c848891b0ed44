-- The designators of a document that aren't declared, and the literals that aren't among the values of those with which they are compared.
use Rattle.std.specs.Prelude.{◌≡◌, ℕ, List, Bool, true, false, not, ◌&&◌, ◌||◌, Option, Some, None, option_and_then}
use Rattle.std.specs.List.{All, Contains}
use Rattle.serde_json.specs.Data.{Data}
use Rattle.lint_places.specs.Places.{Spot, StandsInside}
use Rattle.lint_places.specs.Told.{Scope}
use Rattle.lint_places.specs.declared.part.Part.{Part}
use Rattle.lint_places.specs.declared.part.Part.TheVariants as part
use Rattle.ent_values.specs.declared.value.Value.{Value}
use Rattle.lint_declared.specs.Asked.{asked, is_declared}
use Rattle.lint_declared.specs.Compared.{Place, designators, has_stray, is_stray, literal_as, literals}
use Rattle.lint_declared.specs.declared.attribute.DeclaredAttribute.{DeclaredAttribute}
use Rattle.lint_declared.specs.declared.designator.Undeclared.{Undeclared}

-- it is for a designator
abbrev pub is_designator : Part → Bool
is_designator part.Designator = true
is_designator _ = false

-- a part of a document, by its place
abbrev pub spot : List ℕ → Part → Scope → Data → Spot
spot pointer part scope d = record { pointer = pointer; part = part; scope = scope; json = d }

-- a place where a designator stands that isn't declared
abbrev pub is_undeclared : List DeclaredAttribute → Spot → Bool
is_undeclared attributes s = is_designator s.part && not (is_declared attributes s.json)

-- something is wrong there: a designator isn't declared, or a literal isn't among the values of one
abbrev pub is_wrong : List DeclaredAttribute → Spot → Bool
is_wrong attributes s = is_undeclared attributes s || has_stray attributes s.part (s.pointer, s.json)

-- in none of the parts that stand at this place and inside of it
abbrev pub IsAllDeclared : List DeclaredAttribute → Spot → Type 0
IsAllDeclared attributes s = (level : ℕ) (spot : Spot) → StandsInside level spot s → is_wrong attributes spot ≡ false

-- what is found is this designator, with what it asks for
pub record IsDesignatorAt (attributes : List DeclaredAttribute) (found : Undeclared) (spot : Spot) : Type 0 where
  pub is_there : spot.pointer ≡ found.pointer
  pub is_asked : asked spot.json ≡ found.asked
  pub undeclared : is_undeclared attributes spot ≡ true

-- what is found is this literal, with what this designator asks for, and with the value by its type
pub record IsLiteralAt (attributes : List DeclaredAttribute) (found : Undeclared) (literal designator : Place) : Type 0 where
  pub is_there : literal.0 ≡ found.pointer
  pub is_asked : asked designator.1 ≡ found.asked
  pub is_value : option_and_then (λ wanted. literal_as wanted.datatype literal.1) found.asked ≡ found.value
  pub strays : is_stray attributes designator literal ≡ true

-- what is found is one of some literals, with what one of some designators asks for
abbrev pub IsLiteralOf : List DeclaredAttribute → Undeclared → List Place → List Place → Type 0
IsLiteralOf attributes found literals designators =
    (literal designator : Place) × Contains literals literal × Contains designators designator × IsLiteralAt attributes found literal designator

-- what is wrong there is a designator, or a literal, by whether it has a value
abbrev pub IsWrongBy : List DeclaredAttribute → Undeclared → Spot → Option Value → Type 0
IsWrongBy attributes found spot None = IsDesignatorAt attributes found spot
IsWrongBy attributes found spot (Some value) = IsLiteralOf attributes found (literals spot.part (spot.pointer, spot.json)) (designators spot.part (spot.pointer, spot.json))

-- what is found stands at one of those parts
pub record StandsIn (attributes : List DeclaredAttribute) (found : Undeclared) (s : Spot) : Type 0 where
  pub spot : Spot
  pub level : ℕ
  pub is_part : StandsInside level spot s
  pub is_there : IsWrongBy attributes found spot found.value

-- nothing is found only where all designators are declared and all literals are among the values, and what is found stands there
abbrev pub Finds : List DeclaredAttribute → Spot → Option Undeclared → Type 0
Finds attributes s None = IsAllDeclared attributes s
Finds attributes s (Some found) = StandsIn attributes found s

-- what is found at the place itself
abbrev pub FindsHere : List DeclaredAttribute → Spot → Option Undeclared → Type 0
FindsHere attributes s None = is_wrong attributes s ≡ false
FindsHere attributes s (Some found) = StandsIn attributes found s

-- what is found at some places
abbrev pub FindsIn : List DeclaredAttribute → List Spot → Option Undeclared → Type 0
FindsIn attributes spots None = All (IsAllDeclared attributes) spots
FindsIn attributes spots (Some found) = (s : Spot) × Contains spots s × StandsIn attributes found s
